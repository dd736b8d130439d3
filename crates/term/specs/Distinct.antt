-- Lists in which nothing stands twice: two of them with the same members are equally long.
use Rattle.std.specs.Prelude.{◌≡◌, ◌⊎◌, Bool, true, false, length}
use Rattle.std.proofs.Math.Path.{refl, sym, ap}
use Rattle.std.proofs.Common.{◌∙◌, inl, inr, le_antisymm, arith}
use mathlib.Core.List.Memᴰ
use mathlib.Core.List.{List, [], ◌∷◌, ◌++◌, map, Memᴰ}
use Prim.Native.Nat.{ℕ, suc, ◌≤◌}
use Rattle.term.specs.Beginnings.{Distinct, put_if}

module _ {A : Type 0} where
  -- the list less one of its members
  less : {x : A} {ys : List A} → Memᴰ x ys → List A
  less (Memᴰ.head {xs = ys} e) = ys
  less (Memᴰ.tail {x = y} i) = y ∷ less i

  less_length : {x : A} {ys : List A} (i : Memᴰ x ys) → length ys ≡ suc (length (less i))
  unfolding less
  less_length (Memᴰ.head e) = refl
  less_length (Memᴰ.tail i) = ap suc (less_length i)

  less_keeps : {x z : A} {ys : List A} (i : Memᴰ x ys) → Memᴰ z ys → ¬ (z ≡ x) → Memᴰ z (less i)
  unfolding less
  less_keeps (Memᴰ.head e) (Memᴰ.head f) h = absurd (h (f ∙ sym e))
  less_keeps (Memᴰ.head e) (Memᴰ.tail j) h = j
  less_keeps (Memᴰ.tail i) (Memᴰ.head f) h = Memᴰ.head f
  less_keeps (Memᴰ.tail i) (Memᴰ.tail j) h = Memᴰ.tail (less_keeps i j h)

  pub no_more : (xs ys : List A) → Distinct xs → ((x : A) → Memᴰ x xs → Memᴰ x ys) → length xs ≤ length ys
  no_more [] ys d h = omega arith
  no_more (x ∷ xs) ys d h =
      let i = h x (Memᴰ.head refl) in
      omega (arith, less_length i, no_more xs (less i) d.1 (λ z j. less_keeps i (h z (Memᴰ.tail j)) (λ e. d.0 (Memᴰ.cast (sym e) j))))

  pub as_many : (xs ys : List A) → Distinct xs → Distinct ys → ((x : A) → Memᴰ x xs → Memᴰ x ys)
      → ((x : A) → Memᴰ x ys → Memᴰ x xs) → length xs ≡ length ys
  as_many xs ys d e f g = le_antisymm (no_more xs ys d f) (no_more ys xs e g)

  pub distinct_append : (xs ys : List A) → Distinct xs → Distinct ys → ((x : A) → Memᴰ x xs → Memᴰ x ys → ⊥) → Distinct (xs ++ ys)
  distinct_append [] ys d e h = e
  distinct_append (x ∷ xs) ys d e h =
      ((λ i. go (Memᴰ.append_cases xs i)), distinct_append xs ys d.1 e (λ z i j. h z (Memᴰ.tail i) j))
    where
      go : Memᴰ x xs ⊎ Memᴰ x ys → ⊥
      go (inl i) = d.0 i
      go (inr j) = h x (Memᴰ.head refl) j

  -- a member that is put only where a test passes
  pub put_member : (b : Bool) (a : A) (l : List A) {x : A} → Memᴰ x (put_if b a l) → ((b ≡ true) × (x ≡ a)) ⊎ Memᴰ x l
  put_member true a l (Memᴰ.head e) = inl (refl, e)
  put_member true a l (Memᴰ.tail i) = inr i
  put_member false a l i = inr i

  pub put_keeps : (b : Bool) (a : A) (l : List A) {x : A} → Memᴰ x l → Memᴰ x (put_if b a l)
  put_keeps true a l i = Memᴰ.tail i
  put_keeps false a l i = i

  pub put_adds : (b : Bool) (a : A) (l : List A) → b ≡ true → Memᴰ a (put_if b a l)
  put_adds true a l e = Memᴰ.head refl
  put_adds false a l e = let z : ◌≡◌ {A = ℕ} 0 1 = cc in absurd (omega arith)

  pub put_distinct : (b : Bool) (a : A) (l : List A) → (b ≡ true → ¬ (Memᴰ a l)) → Distinct l → Distinct (put_if b a l)
  put_distinct true a l h d = (h refl, d)
  put_distinct false a l h d = d

pub distinct_map : {A B : Type 0} (f : A → B) (l : List A) → Distinct l → ((x y : A) → Memᴰ x l → Memᴰ y l → f x ≡ f y → x ≡ y) → Distinct (map f l)
distinct_map f [] d h = tt
distinct_map f (x ∷ xs) d h = (
  (λ i. let q = Memᴰ.of_map f xs i in d.0 (Memᴰ.cast (h x q.0 (Memᴰ.head refl) (Memᴰ.tail q.1) (sym q.2)) q.1)),
  distinct_map f xs d.1 (λ a b i j e. h a b (Memᴰ.tail i) (Memᴰ.tail j) e),
)
