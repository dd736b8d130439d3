-- Which nodes an add takes: those that are free and have fewer free nodes below them than the rule needs.
use Rattle.std.specs.Prelude.{◌≡◌, ◌⊎◌, ◌↔◌, List, Bool, true, false}
use Rattle.std.proofs.Math.Path.{refl, ap, subst}
use Rattle.std.proofs.Common.{sym, ◌∙◌, inl, inr}
use Prim.Native.Nat.{ℕ, zero, suc, ◌+◌, ◌-◌, ◌≤◌, ◌<◌}
use native.Mathlib.Omega.{arith}
use Rattle.std.proofs.Math.Decide.{ℕ_discrete}
use Rattle.deciding.specs.Deciding.{true_not_false}
use Rattle.layout.specs.Layout.{nodes_limit}
use Rattle.shape.specs.Tally.{bit, tally}
use Rattle.shape.specs.Tallies.{bit_le, tally_all, tally_le}
use Rattle.book.specs.Rules.{nodes_of}
use Rattle.book.specs.Memory.{view, Passing, rules_in}
use Rattle.change.specs.Promises.{TakesLowest}
use Rattle.book.specs.Facts.{nodes_in_use}

-- A node is in use; and how many nodes below n are free.
abbrev pub InUse : List ℕ → ℕ → Type 0
InUse m n = (view m).tree.used n ≡ true

abbrev pub free_below : List ℕ → ℕ → ℕ
free_below m n = n - tally (view m).tree.used n

pub one_more : (w : ℕ → Bool) (n : ℕ) → tally w (suc n) ≡ bit (w n) + tally w n
unfolding tally
one_more w n = refl

-- ---- two sets of numbers below 4,096, the first a part of the second

module _ (u v : ℕ → Bool) (kept : (n : ℕ) → n < nodes_limit → u n ≡ true → v n ≡ true) (n : ℕ) where
  -- above n at least as many are in the second
  more_above : (k : ℕ) → n ≤ k → k ≤ nodes_limit → tally v n + tally u k ≤ tally u n + tally v k
  unfolding tally
  more_above zero h b = subst (λ (z : ℕ). tally v z + 0 ≤ tally u z + 0) (let e : 0 ≡ n = omega arith in e) (omega arith)
  more_above (suc k) h b = go (ℕ_discrete n (suc k)) (λ l. more_above k l (omega arith))
    where
      go : Dec (n ≡ suc k) → (n ≤ k → tally v n + tally u k ≤ tally u n + tally v k) → tally v n + tally u (suc k) ≤ tally u n + tally v (suc k)
      go (yes e) ih = subst (λ (z : ℕ). tally v n + tally u z ≤ tally u n + tally v z) e (omega arith)
      go (no e) ih = let x = ih (omega arith) in let y = bit_le (v k) (u k) (kept k (omega arith)) in omega arith

  -- exactly as many where above n the two are the same
  same_above : ((j : ℕ) → n ≤ j → j < nodes_limit → v j ≡ u j) → (k : ℕ) → n ≤ k → k ≤ nodes_limit → tally v n + tally u k ≡ tally u n + tally v k
  unfolding tally
  same_above s zero h b = subst (λ (z : ℕ). tally v z + 0 ≡ tally u z + 0) (let e : 0 ≡ n = omega arith in e) refl
  same_above s (suc k) h b = go (ℕ_discrete n (suc k)) (λ l. same_above s k l (omega arith))
    where
      go : Dec (n ≡ suc k) → (n ≤ k → tally v n + tally u k ≡ tally u n + tally v k) → tally v n + tally u (suc k) ≡ tally u n + tally v (suc k)
      go (yes e) ih = subst (λ (z : ℕ). tally v n + tally u z ≡ tally u n + tally v z) e (omega arith)
      go (no e) ih = let x = ih (omega arith) in let y : bit (v k) ≡ bit (u k) = ap bit (s k (omega arith) (omega arith)) in omega arith

module _ (m m' : List ℕ) (p : Passing m) (q : Passing m') (takes : TakesLowest (view m).tree (view m').tree) (n : ℕ) (low : n < nodes_limit) where
  abbrev u : ℕ → Bool
  u = (view m).tree.used

  abbrev v : ℕ → Bool
  v = (view m').tree.used

  -- How many nodes come into use.
  abbrev gained : ℕ
  gained = nodes_of (rules_in m') - nodes_of (rules_in m)

  -- a node that comes into use has all below it in use
  taken : u n ≡ false → v n ≡ true → free_below m n < gained
  taken f t =
      let all : tally v (suc n) ≡ suc n = tally_all v (suc n) (λ j h. below j h (ℕ_discrete j n)) in
      let a : bit (u n) ≡ 0 = ap bit f in
      let b = one_more u n in
      let above = more_above u v takes.kept (suc n) 4096 (omega arith) (omega arith) in
      let c = nodes_in_use m p in let d = nodes_in_use m' q in
      let e = tally_le u n in
      omega arith
    where
      below : (j : ℕ) → j < suc n → Dec (j ≡ n) → v j ≡ true
      below j h (yes e) = ap v e ∙ t
      below j h (no e) = takes.lowest n low f t j (omega arith)

  -- below one that stays free are all that come into use
  left : u n ≡ false → v n ≡ false → gained ≤ free_below m n
  left f t =
      let above = same_above u v takes.kept n same 4096 (omega arith) (omega arith) in
      let c = nodes_in_use m p in let d = nodes_in_use m' q in
      let e = tally_le u n in let g = tally_le v n in
      omega arith
    where
      free : (j : ℕ) → j < nodes_limit → n < j → (a b : Bool) → u j ≡ a → v j ≡ b → v j ≡ u j
      free j l h true b x y = takes.kept j l x ∙ sym x
      free j l h false true x y = absurd (true_not_false (takes.lowest j l x y n h) t)
      free j l h false false x y = y ∙ sym x

      same : (j : ℕ) → n ≤ j → j < nodes_limit → v j ≡ u j
      same j h l = go (ℕ_discrete n j)
        where
          go : Dec (n ≡ j) → v j ≡ u j
          go (yes e) = ap v (sym e) ∙ t ∙ sym f ∙ ap u e
          go (no e) = free j l (omega arith) (u j) (v j) refl refl

  -- A node is in use afterwards exactly when it was before, or fewer free ones stood below it than come into use.
  pub which_nodes : InUse m' n ↔ (InUse m n ⊎ (free_below m n < gained))
  which_nodes = (to (u n) refl, of (u n) (v n) refl refl)
    where
      to : (a : Bool) → u n ≡ a → v n ≡ true → InUse m n ⊎ (free_below m n < gained)
      to true e t = inl e
      to false e t = inr (taken e t)

      of : (a b : Bool) → u n ≡ a → v n ≡ b → InUse m n ⊎ (free_below m n < gained) → v n ≡ true
      of a true e t x = t
      of true false e t x = takes.kept n low e
      of false false e t (inl x) = absurd (true_not_false x e)
      of false false e t (inr x) = absurd (let l = left e t in omega arith)
