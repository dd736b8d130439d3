-- Tests: a value picked by a test, and a test that says whether something holds.
use Rattle.std.specs.Prelude.{◌≡◌, refl, Bool, true, false, ℕ}
use Rattle.std.proofs.Common.{sym, ap, ◌∙◌, arith}

abbrev pub pick : {X : Type 0} → Bool → X → X → X
pick true a b = a
pick false a b = b

-- Do both hold?
abbrev pub both : Bool → Bool → Bool
both true b = b
both false b = false

-- A test that says whether something holds.
pub record Decides (P : Type 0) (b : Bool) : Type 0 where
  pub yes : b ≡ true → P
  pub no : b ≡ false → P → ⊥

pub true_not_false : {b : Bool} → b ≡ true → b ≡ false → ⊥
true_not_false e f = let z : true ≡ false = sym e ∙ f in let y : ◌≡◌ {A = ℕ} 0 1 = cc in omega arith

-- It says one thing.
pub decides_once : {P : Type 0} (a b : Bool) → Decides P a → Decides P b → a ≡ b
decides_once true true d e = refl
decides_once true false d e = absurd (e.no refl (d.yes refl))
decides_once false true d e = absurd (d.no refl (e.yes refl))
decides_once false false d e = refl

pub decided : {P : Type 0} → P → Decides P true
decided p = record { yes = λ e. p; no = λ e. absurd (true_not_false refl e) }

pub denied : {P : Type 0} → (P → ⊥) → Decides P false
denied f = record { yes = λ e. absurd (true_not_false e refl); no = λ e. f }

-- Both hold exactly where each does.
pub of_both : (a b : Bool) → both a b ≡ true → (a ≡ true) × (b ≡ true)
of_both true b e = (refl, e)
of_both false b e = absurd (true_not_false e refl)

pub to_both : (a b : Bool) → a ≡ true → b ≡ true → both a b ≡ true
to_both a b e f = ap (λ (x : Bool). both x b) e ∙ f

pub both_false : (a : Bool) → both a false ≡ false
both_false true = refl
both_false false = refl
