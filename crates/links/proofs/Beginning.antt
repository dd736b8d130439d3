-- Where to begin: at the first child, or at one further on than that
use mathlib.Core.Path.{◌≡◌, refl, sym, ap, ◌∙◌, subst}
use mathlib.Core.Logic.{◌⊎◌, inl, inr}
use mathlib.Core.List.{List}
use Prim.Native.Nat.{ℕ, zero, suc, ◌-◌, ◌≤◌, ◌<◌}
use native.Mathlib.Omega.{arith}
use Rattle.layout.specs.Layout.{last_link}
use Rattle.shape.specs.Shape.{child, Fits}
use Rattle.links.specs.Words.{cell_of, parent_of, first_of, word, shape}
use Rattle.links.specs.Siblings.{Before, Further, Ready, link_low}

pub first_link : (ws : List ℕ) (p x : ℕ) → Ready ws p → x ≡ first_of (word ws p) → x ≤ last_link
first_link ws p x r e = link_low ws r.size r.tree (child p) r.live x (sym e)

module _ (ws : List ℕ) (p c x v : ℕ) (r : Ready ws p) (n : ¬ (x ≡ 0)) (e : x ≡ first_of (word ws p)) (ev : v ≡ cell_of (word ws x)) (l : v < c) where
  pub from_known : (y : ℕ) → (y ≡ x) ⊎ Further (shape ws) (word ws x) (c - 1) y → Before (shape ws) p y c
  from_known y h = go x refl h
    where
      go : (z : ℕ) → x ≡ z → (y ≡ x) ⊎ Further (shape ws) (word ws x) (c - 1) y → Before (shape ws) p y c
      go zero q h = absurd (n q)
      go (suc k) q h = by h
        where
          g : Fits (shape ws) (child p) k
          g = r.tree.goes (child p) r.live (sym e ∙ q)

          same : (shape ws).cell k ≡ v
          same = ap (λ (i : ℕ). cell_of (word ws i)) (sym q) ∙ sym ev

          parents : (shape ws).parent k ≡ parent_of (word ws x)
          parents = ap (λ (i : ℕ). parent_of (word ws i)) (sym q)

          by : (y ≡ x) ⊎ Further (shape ws) (word ws x) (c - 1) y → Before (shape ws) p y c
          by (inl d) = subst (λ (i : ℕ). Before (shape ws) p i c) (sym (d ∙ q)) (record { valid = g.used; under = g.under; above = omega (arith, same, l) })
          by (inr f) = subst (λ (i : ℕ). Before (shape ws) p i c) (sym f.leads)
              (record { valid = f.used; under = f.beside ∙ sym parents ∙ g.under; above = let h = f.near in omega (arith, l) })
