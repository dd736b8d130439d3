-- Rules hang below the last nodes of their forms, as nodes from 4,096 on: the row of a rule is its form and then its number.
-- So the nodes below 4,096 are those of the forms, and a rule's own node is where its row ends.
use Rattle.std.specs.Prelude.{◌≡◌, refl, ◌⊎◌, ℕ, suc, ◌+◌, ◌≤◌, ◌<◌, length}
use Rattle.std.proofs.Common.{sym, ap, ◌∙◌, subst, inl, inr, arith, length-append}
use mathlib.Core.List.Memᴰ
use mathlib.Core.List.{List, [], ◌∷◌, ◌++◌, map, append-nil, append_assoc, reverse, reverse-cons, reverse-append, reverse-reverse, Memᴰ, head-eq_of_cons-eq, tail-eq_of_cons-eq}
use Rattle.std.proofs.Math.Decide.{dec_lt}
use Rattle.std.proofs.Math.Nat.{suc_inj}
use Rattle.layout.specs.Layout.{nodes_limit}
use Rattle.term.specs.Beginnings.{Begins}
use Rattle.shape.specs.Basics.{up_used}
use Rattle.shape.specs.Shape.{Shape, Used, Up, End, Passes, forms, PrefixFree, Short}
use Rattle.shape.specs.Rows.{up_same, up_one, passes_tree, row_begins, begins_row, row_short, end_form}
use Rattle.shape.specs.NodeCount.{Numbered}

-- A rule's place, its form as cell numbers, and its number
pub record Leaf : Type 0 where
  pub slot : ℕ
  pub form : List ℕ
  pub number : ℕ

-- its row: the form, and then the number
abbrev pub row_of : Leaf → List ℕ
row_of x = x.form ++ (x.number ∷ [])

abbrev pub end_of : Leaf → End
end_of x = record { last = nodes_limit + x.slot; form = row_of x }

abbrev pub ends : List Leaf → List End
ends xs = map end_of xs

abbrev pub bases : List Leaf → List (List ℕ)
bases xs = map (λ x. x.form) xs

-- the last cell of a row, and what comes before
pub last_cell : (a b : List ℕ) {x y : ℕ} → a ++ (x ∷ []) ≡ b ++ (y ∷ []) → (a ≡ b) × (x ≡ y)
last_cell a b {x} {y} e =
    let r : x ∷ reverse a ≡ y ∷ reverse b = sym (reverse-append a (x ∷ [])) ∙ ap reverse e ∙ reverse-append b (y ∷ []) in
    (sym (reverse-reverse a) ∙ ap reverse (tail-eq_of_cons-eq r) ∙ reverse-reverse b, head-eq_of_cons-eq r)

data Last : List ℕ → Type 0 where
  none : Last []
  some : (a : List ℕ) (x : ℕ) → Last (a ++ (x ∷ []))

last : (s : List ℕ) → Last s
last s = subst Last (reverse-reverse s) (go (reverse s))
  where
    go : (r : List ℕ) → Last (reverse r)
    go [] = none
    go (x ∷ r) = subst Last (sym (reverse-cons x r)) (some (reverse r) x)

-- Every node from 4,096 on is a rule's, and no form is a proper beginning of another or too long.
pub record Hanging (m : Shape) (xs : List Leaf) : Type 0 where
  pub passes : Passes m (ends xs)
  pub all : (n : ℕ) → nodes_limit ≤ n → Used m n → (x : Leaf) × Memᴰ x xs × (nodes_limit + x.slot ≡ n)
  pub free : (x y : Leaf) → Memᴰ x xs → Memᴰ y xs → (s : List ℕ) → x.form ++ s ≡ y.form → s ≡ []
  pub few : (x : Leaf) → Memᴰ x xs → length x.form ≤ 32

pub of_end : {xs : List Leaf} {f : List ℕ} → Memᴰ f (forms (ends xs)) → (x : Leaf) × Memᴰ x xs × (row_of x ≡ f)
of_end {xs} i =
    let a = Memᴰ.of_map (λ (y : End). y.form) (ends xs) i in
    let b = Memᴰ.of_map end_of xs a.1 in
    (b.0, b.1, ap (λ (y : End). y.form) b.2 ∙ a.2)

module _ {m : Shape} {xs : List Leaf} (h : Hanging m xs) where
  -- rows are no proper beginnings of each other either
  pub rows_free : PrefixFree (forms (ends xs))
  rows_free f g i j s e = go (of_end i) (of_end j) (last s) e
    where
      go : (x : Leaf) × Memᴰ x xs × (row_of x ≡ f) → (y : Leaf) × Memᴰ y xs × (row_of y ≡ g)
          → {s : List ℕ} → Last s → f ++ s ≡ g → s ≡ []
      go a b none e = refl
      go a b (some t z) e =
          let whole : (a.0.form ++ (a.0.number ∷ t)) ++ (z ∷ []) ≡ row_of b.0 =
          append_assoc a.0.form (a.0.number ∷ t) (z ∷ []) ∙ sym (append_assoc a.0.form (a.0.number ∷ []) (t ++ (z ∷ [])))
          ∙ ap (λ (l : List ℕ). l ++ (t ++ (z ∷ []))) a.2 ∙ e ∙ sym b.2 in
          let q = h.free a.0 b.0 a.1 b.1 (a.0.number ∷ t) (last_cell (a.0.form ++ (a.0.number ∷ t)) b.0.form whole).0 in
          absurd (omega (arith, ap length q))

  pub rows_short : Short (forms (ends xs))
  rows_short f i = let a = of_end {xs = xs} i in omega (arith, sym (length-append a.0.form (a.0.number ∷ [])) ∙ ap length a.2, h.few a.0 a.1)

  leaf_up : (x : Leaf) → Memᴰ x xs → Up m (suc (nodes_limit + x.slot)) (reverse (row_of x))
  leaf_up x i = h.passes.ways (end_of x) (Memᴰ.map end_of i)

  -- a beginning of a row is one of its form, or the whole row
  inside : (p s f : List ℕ) (k : ℕ) → p ++ s ≡ f ++ (k ∷ []) → (p ≡ f ++ (k ∷ [])) ⊎ ((u : List ℕ) × (p ++ u ≡ f))
  inside p s f k e = go (last s) e
    where
      go : {s : List ℕ} → Last s → p ++ s ≡ f ++ (k ∷ []) → (p ≡ f ++ (k ∷ [])) ⊎ ((u : List ℕ) × (p ++ u ≡ f))
      go none e = inl (sym (append-nil p) ∙ e)
      go (some t z) e = inr (t, (last_cell (p ++ t) f (append_assoc p t (z ∷ []) ∙ e)).0)

  begins : (n : ℕ) (r : List ℕ) → n < nodes_limit → Up m (suc n) r → Begins (reverse r) (bases xs)
  begins n r l u = by (of_end b.among)
    where
      b : Begins (reverse r) (forms (ends xs))
      b = row_begins h.passes u

      by : (x : Leaf) × Memᴰ x xs × (row_of x ≡ b.form) → Begins (reverse r) (bases xs)
      by a = go (inside (reverse r) b.rest a.0.form a.0.number (b.is ∙ sym a.2))
        where
          go : (reverse r ≡ row_of a.0) ⊎ ((u : List ℕ) × (reverse r ++ u ≡ a.0.form)) → Begins (reverse r) (bases xs)
          go (inl e) =
              let same : r ≡ reverse (row_of a.0) = sym (reverse-reverse r) ∙ ap reverse e in
              let q = up_one (passes_tree h.passes) u (subst (λ (z : List ℕ). Up m (suc (nodes_limit + a.0.slot)) z) (sym same) (leaf_up a.0 a.1)) in
              absurd (omega (arith, suc_inj q))
          go (inr v) = record { form = a.0.form; among = Memᴰ.map (λ (x : Leaf). x.form) a.1; rest = v.0; is = v.1; not_empty = b.not_empty }

  -- a node whose row is a beginning of a form, old or new, that no form begins properly is below 4,096
  pub inner : (n : ℕ) (p f : List ℕ) → ((x : Leaf) → Memᴰ x xs → (s : List ℕ) → x.form ++ s ≡ f → s ≡ [])
      → (u : List ℕ) → p ++ u ≡ f → Up m (suc n) (reverse p) → n < nodes_limit
  inner n p f free u e up = go (dec_lt n nodes_limit)
    where
      go : Dec (n < nodes_limit) → n < nodes_limit
      go (yes l) = l
      go (no l) =
          let a = h.all n (omega arith) (up_used up) in
          let row = subst (λ (z : ℕ). Up m (suc z) (reverse (row_of a.0))) a.2 (leaf_up a.0 a.1) in
          let same : p ≡ row_of a.0 = sym (reverse-reverse p) ∙ ap reverse (up_same up row) ∙ reverse-reverse (row_of a.0) in
          let q = free a.0 a.1 (a.0.number ∷ u) (sym (append_assoc a.0.form (a.0.number ∷ []) u) ∙ ap (λ (z : List ℕ). z ++ u) (sym same) ∙ e) in
          absurd (omega (arith, ap length q))

  node : (r : List ℕ) → Begins (reverse r) (bases xs) → (n : ℕ) × (n < nodes_limit) × Up m (suc n) r
  node r b =
      let x = Memᴰ.of_map (λ (x : Leaf). x.form) xs b.among in
      let row : Begins (reverse r) (forms (ends xs)) = record {
        form = row_of x.0;
        among = end_form (end_of x.0) (Memᴰ.map end_of x.1);
        rest = b.rest ++ (x.0.number ∷ []);
        not_empty = b.not_empty;
        is = sym (append_assoc (reverse r) b.rest (x.0.number ∷ [])) ∙ ap (λ (z : List ℕ). z ++ (x.0.number ∷ [])) (b.is ∙ sym x.2);
      } in
      let q = begins_row h.passes r row in
      let e : reverse r ++ b.rest ≡ x.0.form = b.is ∙ sym x.2 in
      let up = subst (λ (z : List ℕ). Up m (suc q.0) z) (sym (reverse-reverse r)) q.1 in
      (q.0, inner q.0 (reverse r) x.0.form (λ y i s d. h.free y x.0 i x.1 s d) b.rest e up, q.1)

  pub numbered : Numbered m (bases xs)
  numbered = record { tree = passes_tree h.passes; short = row_short h.passes rows_short; begins = begins; node = node }
