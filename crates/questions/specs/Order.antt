-- The marked numbers in the order of a list: each of them and no other, in order, and so many.
use Rattle.std.specs.Prelude.{◌≡◌, ◌↔◌, Bool, length}
use Rattle.std.proofs.Math.Path.{refl, subst}
use Rattle.std.proofs.Common.{sym, ap, arith}
use mathlib.Core.List.Memᴰ
use mathlib.Core.List.{List, ◌++◌, Memᴰ}
use Rattle.std.proofs.Math.Bool.{true, false}
use Prim.Native.Nat.{ℕ, zero, suc, ◌<◌}
use Rattle.std.proofs.Math.Dec.{T}
use Rattle.layout.specs.Layout.{rule_numbers}
use Rattle.book.specs.Rules.{Rules, each}
use Rattle.book.specs.Gathered.{of_each, to_each, each_same}
use Rattle.questions.specs.Asking.{BeforeAll, Ordered, keep_if, numbers, numbers_in_order}

kept : (b : Bool) (k j : ℕ) → Memᴰ j (keep_if b k) → (k ≡ j) × T b
kept true k j i = (sym (Memᴰ.eq_of_singleton i), tt)
kept false k j i = absurd (Memᴰ.not-nil i)

keeps : (b : Bool) (k : ℕ) → T b → Memᴰ k (keep_if b k)
keeps true k h = Memᴰ.head refl
keeps false k h = absurd h

module _ (rules : Rules) (marked : ℕ → Bool) where
  abbrev keep : ℕ → List ℕ
  keep k = keep_if (marked k) k

  -- each of them, and no other
  pub listed : (k : ℕ) → Memᴰ k (numbers_in_order rules marked) ↔ ((k < rule_numbers) × T (marked k))
  unfolding numbers_in_order
  listed k = (to, of)
    where
      to : Memᴰ k (numbers marked rule_numbers) → (k < rule_numbers) × T (marked k)
      to i =
          let g = of_each keep rule_numbers 0 i in
          let x = kept (marked g.at) g.at k g.among in
          ((let b = g.below in let e = x.0 in omega arith), subst (λ (j : ℕ). T (marked j)) x.0 x.1)

      of : (k < rule_numbers) × T (marked k) → Memᴰ k (numbers marked rule_numbers)
      of x = to_each keep rule_numbers 0 (record { at = k; from = omega arith; below = (let l = x.0 in omega arith); among = keeps (marked k) k x.1 })

  -- in order
  before_each : (a n k : ℕ) → a < k → BeforeAll rules a (each keep n k)
  unfolding each
  before_each a zero k h = tt
  before_each a (suc n) k h = put (marked k) (before_each a n (suc k) (omega arith))
    where
      put : (b : Bool) → BeforeAll rules a (each keep n (suc k)) → BeforeAll rules a (keep_if b k ++ each keep n (suc k))
      put true r = (h, r)
      put false r = r

  ordered_each : (n k : ℕ) → Ordered rules (each keep n k)
  unfolding each
  ordered_each zero k = tt
  ordered_each (suc n) k = put (marked k) (ordered_each n (suc k))
    where
      put : (b : Bool) → Ordered rules (each keep n (suc k)) → Ordered rules (keep_if b k ++ each keep n (suc k))
      put true r = (before_each k n (suc k) (omega arith), r)
      put false r = r

  pub in_order : Ordered rules (numbers_in_order rules marked)
  unfolding numbers_in_order
  in_order = ordered_each rule_numbers 0

  -- so many
  pub as_many : length (numbers_in_order rules marked) ≡ length (numbers marked rule_numbers)
  unfolding numbers_in_order
  as_many = refl

-- the same marks, the same list
pub same_marks : (rules : Rules) (u v : ℕ → Bool) → ((k : ℕ) → u k ≡ v k) → numbers_in_order rules u ≡ numbers_in_order rules v
unfolding numbers_in_order
same_marks rules u v e = each_same (λ k. keep_if (u k) k) (λ k. keep_if (v k) k) rule_numbers 0 (λ k x y. ap (λ (b : Bool). keep_if b k) (e k))
