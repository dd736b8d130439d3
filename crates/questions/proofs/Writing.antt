-- Writing the list: what has come stands in front, and the cells behind it are as they were.
use mathlib.Core.Path.{◌≡◌, refl, sym, ap, ap₂, ◌∙◌, subst}
use mathlib.Core.List.{List, [], ◌∷◌, ◌++◌, append_assoc}
use mathlib.Core.Bool.{Bool, true, false, cond}
use Prim.Native.Nat.{ℕ, zero, suc, ◌+◌, ◌≤◌, ◌<◌}
use native.Mathlib.Omega.{arith}
use lib.ListN.{length, get_or, set, drop}
use Rattle.std.proofs.lemmas.List.{map-id}
use Rattle.std.proofs.lemmas.Iterator.{YieldsList}
use Rattle.std.proofs.lemmas.Iterator.Consumers.{YieldsList-from_first, YieldsList-turn, YieldsList-end}
use Rattle.std.specs.Prelude.{Option, Some, None}
use Rattle.std.specs.Iterator.{Yields, YieldsFirst}
use Rattle.bits.specs.declared.numbers.Ascending.{Ascending}
use Rattle.layout.specs.Layout.{rule_numbers}
use Rattle.bits.specs.Numbers.{has, members, members_on}
use Rattle.book.specs.Rules.{each}
use Rattle.questions.specs.Asking.{numbers, keep_if}

-- ---- the numbers that come are those that are marked

each_member : (marks : List ℕ) (n k : ℕ) → each (λ j. keep_if (has marks j) j) n k ≡ members marks n k
unfolding each members
each_member marks zero k = refl
each_member marks (suc n) k = kept (has marks k) k _ _ (each_member marks n (suc k))
  where
    kept : (b : Bool) (k : ℕ) (xs ys : List ℕ) → xs ≡ ys → keep_if b k ++ xs ≡ cond b (k ∷ ys) ys
    kept true k xs ys e = ap (λ (z : List ℕ). k ∷ z) e
    kept false k xs ys e = e

pub all_members : (marks : List ℕ) → members marks rule_numbers 0 ≡ numbers (has marks) rule_numbers
all_members marks = sym (each_member marks rule_numbers 0)

pub few : (marks : List ℕ) (n k : ℕ) → length (members marks n k) ≤ n
unfolding members
few marks zero k = omega arith
few marks (suc n) k = kept (has marks k) (few marks n (suc k))
  where
    kept : (b : Bool) → length (members marks n (suc k)) ≤ n → length (cond b (k ∷ members marks n (suc k)) (members marks n (suc k))) ≤ suc n
    kept true h = omega arith
    kept false h = omega arith

low : (marks : List ℕ) (n k i d : ℕ) → i < length (members marks n k) → get_or (members marks n k) i d < k + n
unfolding members
low marks zero k i d h = absurd (omega arith)
low marks (suc n) k i d h = kept (has marks k) (λ j. low marks n (suc k) j d) i h
  where
    kept : (b : Bool) → ((j : ℕ) → j < length (members marks n (suc k)) → get_or (members marks n (suc k)) j d < suc k + n) → (i : ℕ)
        → i < length (cond b (k ∷ members marks n (suc k)) (members marks n (suc k)))
        → get_or (cond b (k ∷ members marks n (suc k)) (members marks n (suc k))) i d < k + suc n
    kept true f zero h = omega arith
    kept true f (suc i) h = let q = f i (omega arith) in omega arith
    kept false f i h = let q = f i h in omega arith

-- ---- the loop over them, which has given xs

abbrev left : Ascending → List ℕ
left s = members_on s.map.now s.next

module _ (marks : List ℕ) (made it : Ascending) (e : left made ≡ members marks 4096 0) (same : it ≡ made) (xs : List ℕ) (t : Ascending) (y : Yields (YieldsFirst left) it xs t)
    (r : Option ℕ) (u : Ascending) (steps : YieldsFirst left t r u) where
  road : YieldsList (YieldsFirst left) (λ x. x) it (members marks 4096 0)
  road = YieldsList-from_first (λ x. x) left (members marks 4096 0) (ap left same ∙ e)

  pub turn : (x : ℕ) → r ≡ Some x → (length xs < length (numbers (has marks) rule_numbers)) × (x < 4096)
  turn x is =
      let q = YieldsList-turn road xs t y r u x is steps in
      (subst (λ (z : List ℕ). length xs < length z) (all_members marks) q.0, omega (arith, low marks 4096 0 (length xs) x q.0, q.1))

  pub end : r ≡ None → xs ≡ numbers (has marks) rule_numbers
  end is = sym (map-id xs) ∙ (YieldsList-end road xs t y r u is steps).0 ∙ all_members marks

-- ---- one more is written

set_end : (xs zs : List ℕ) (v : ℕ) → set (xs ++ zs) (length xs) v ≡ xs ++ set zs 0 v
set_end [] zs v = refl
set_end (x ∷ xs) zs v = ap (λ (z : List ℕ). x ∷ z) (set_end xs zs v)

set_drop : (n : ℕ) (ys : List ℕ) (v : ℕ) → n < length ys → set (drop n ys) 0 v ≡ v ∷ drop (suc n) ys
set_drop n [] v h = absurd (omega arith)
set_drop zero (y ∷ ys) v h = refl
set_drop (suc n) (y ∷ ys) v h = set_drop n ys v (omega arith)

pub one_more : (xs out₀ out : List ℕ) (n v : ℕ) → n ≡ length xs → n < length out₀ → out ≡ xs ++ drop n out₀ → set out n v ≡ (xs ++ (v ∷ [])) ++ drop (n + 1) out₀
one_more xs out₀ out n v e h is =
    ap₂ (λ (i : ℕ) (z : List ℕ). set z i v) e is ∙ set_end xs (drop n out₀) v ∙ ap (λ (z : List ℕ). xs ++ z) (set_drop n out₀ v h)
    ∙ ap (λ (i : ℕ). xs ++ (v ∷ drop i out₀)) next ∙ sym (append_assoc xs (v ∷ []) (drop (n + 1) out₀))
  where
    next : suc n ≡ n + 1
    next = omega arith
