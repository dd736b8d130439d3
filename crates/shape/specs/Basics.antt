-- Small facts that several modules use
use Rattle.std.specs.Prelude.{◌≡◌, refl, List, ◌∷◌, Bool, true, false, not, ℕ, suc, eqb}
use Rattle.std.proofs.Common.{sym, ◌∙◌, eq-eqb}
use Rattle.std.proofs.lemmas.Bool.{not-true, not-false}
use Rattle.shape.specs.Shape.{Shape, Used, Live, Up, top, down}

-- what a test answers, asked by `if !test`
pub told_no : {b u : Bool} → b ≡ u → not b ≡ true → u ≡ false
told_no {b} e h = sym e ∙ not-true b h

pub told_yes : {b u : Bool} → b ≡ u → not b ≡ false → u ≡ true
told_yes {b} e h = sym e ∙ not-false b h

pub eqb_exact : (a : ℕ) → eqb a a ≡ true
eqb_exact a = eq-eqb a a refl

-- what a way up says of its first node

pub up_live : {m : Shape} {l : ℕ} {r : List ℕ} → Up m l r → Live m l
up_live top = tt
up_live (down u e x) = u

pub up_used : {m : Shape} {n : ℕ} {r : List ℕ} → Up m (suc n) r → Used m n
up_used (down u e x) = u

pub up_parent : {m : Shape} {n c : ℕ} {r : List ℕ} → Up m (suc n) (c ∷ r) → Up m (m.parent n) r
up_parent (down u e x) = x
