-- What a change of one node keeps: ways that do not pass it, and hooks that are not its own
use Rattle.std.specs.Prelude.{◌≡◌, refl, List, false, ℕ, zero, suc, ◌≤◌}
use Rattle.std.proofs.Common.{sym, ap, ◌∙◌, subst, arith}
use Rattle.deciding.specs.Deciding.{true_not_false}
use Rattle.shape.specs.Basics.{up_used}
use Rattle.shape.specs.Shape.{Shape, Hook, child, after, Valid, owner, floor, Fits, Up, top, down, On, here, above, Tree}
use Rattle.shape.specs.Order.{childless}
use Rattle.shape.specs.Rows.{on_row}
use Rattle.shape.specs.Change.{Kept}

pub kept_back : {m m' : Shape} {n : ℕ} → Kept m m' n → Kept m' m n
kept_back k = record { used = λ y h. sym (k.used y h); cell = λ y h. sym (k.cell y h); parent = λ y h. sym (k.parent y h) }

module _ {m m' : Shape} {n : ℕ} (k : Kept m m' n) where
  pub valid_kept : (z : Hook) → ¬ (z ≡ after n) → ¬ (z ≡ child (suc n)) → Valid m z → Valid m' z
  valid_kept (child zero) a b v = tt
  valid_kept (child (suc y)) a b v = k.used y (λ q. b (ap (λ (x : ℕ). child (suc x)) q)) ∙ v
  valid_kept (after y) a b v = k.used y (λ q. a (ap after q)) ∙ v

  pub owner_kept : (z : Hook) → ¬ (z ≡ after n) → owner m' z ≡ owner m z
  owner_kept (child l) a = refl
  owner_kept (after y) a = k.parent y (λ q. a (ap after q))

  floor_kept : (z : Hook) → ¬ (z ≡ after n) → floor m' z ≡ floor m z
  floor_kept (child l) a = refl
  floor_kept (after y) a = ap suc (k.cell y (λ q. a (ap after q)))

  pub floor_of : (z : Hook) → ¬ (z ≡ after n) → {c : ℕ} → floor m z ≤ c → floor m' z ≤ c
  floor_of z a h = let e = floor_kept z a in omega arith

  pub fits_kept : (z : Hook) → ¬ (z ≡ after n) → {y : ℕ} → ¬ (y ≡ n) → Fits m z y → Fits m' z y
  fits_kept z a {y} o f = record {
    used = k.used y o ∙ f.used;
    under = k.parent y o ∙ f.under ∙ sym (owner_kept z a);
    above = floor_of z a (let e = k.cell y o in omega (arith, f.above));
  }

  pub up_kept : {l : ℕ} {r : List ℕ} → ¬ (On m n l) → Up m l r → Up m' l r
  up_kept a top = top
  up_kept a (down {n = y} {r = r} u e x) =
      let o : ¬ (y ≡ n) = λ q. a (subst (λ (z : ℕ). On m n (suc z)) (sym q) here) in
      down (k.used y o ∙ u) (k.cell y o ∙ e) (subst (λ (p : ℕ). Up m' p r) (sym (k.parent y o)) (up_kept (λ q. a (above q)) x))

  pub on_kept : {y l : ℕ} → ¬ (On m n l) → On m y l → On m' y l
  on_kept a here = here
  on_kept {y} a (above {k = j} o) =
      let h : ¬ (j ≡ n) = λ q. a (subst (λ (z : ℕ). On m n (suc z)) (sym q) here) in
      above (subst (λ (z : ℕ). On m' y z) (sym (k.parent j h)) (on_kept (λ q. a (above q)) o))

-- a way passes no free node ..
pub free_off : {m : Shape} {n l : ℕ} {r : List ℕ} → m.used n ≡ false → Up m l r → ¬ (On m n l)
free_off f x o = true_not_false (up_used (on_row o x).up) f

-- .. and a node that has no child only where it begins
pub leaf_off : {m : Shape} {n l : ℕ} {r : List ℕ} → Tree m → m.first (suc n) ≡ 0 → Up m l r → ¬ (l ≡ suc n) → ¬ (On m n l)
leaf_off t f x h here = h refl
leaf_off {m} {n} t f (down u e x) h (above {k = j} o) = leaf_off t f x (λ d. childless m t (suc n) f j u d) o
