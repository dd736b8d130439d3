-- A walk along the children of a link stops at the hook of a cell; a walk down from the root follows the cells of a form
use mathlib.Core.Path.{◌≡◌, refl, sym, ap, ◌∙◌, subst}
use mathlib.Core.Logic.{◌⊎◌, inl, inr}
use mathlib.Core.List.{List, [], ◌∷◌, reverse, reverse-append}
use Prim.Native.Nat.{ℕ, zero, suc, ◌+◌, ◌-◌, ◌≤◌, ◌<◌}
use native.Mathlib.Numerals.{add-one}
use native.Mathlib.Omega.{arith}
use lib.ListN.{length, get_or, take}
use lib.Seq.{take-suc}
use Rattle.layout.specs.Layout.{last_link, tree_words}
use Rattle.shape.specs.Basics.{up_live}
use Rattle.shape.specs.Shape.{Shape, after, Used, Valid, to, owner, floor, Up, top, down, Tree}
use Rattle.shape.specs.Order.{ahead}
use Rattle.shape.specs.Change.{Sorted}
use Rattle.links.specs.Words.{cell_of, next_of, word, shape, hook}
use Rattle.tree.specs.Promises.{Sound, Found, Absent}
use Rattle.tree.specs.Needs.{IsChild}
use Rattle.links.specs.Limits.{live_low, hook_low}
use Rattle.links.specs.Siblings.{Before, Ready, link_low}

-- ---- along the children of p: behind b, and x comes next

pub record Along (ws : List ℕ) (p b c x : ℕ) : Type 0 where
  pub valid : Valid (shape ws) (hook p b)
  pub under : owner (shape ws) (hook p b) ≡ p
  pub above : floor (shape ws) (hook p b) ≤ c
  pub leads : to (shape ws) (hook p b) ≡ x
  pub low : x ≤ last_link

pub walk_start : (ws : List ℕ) (p b c x : ℕ) → Ready ws p → Before (shape ws) p b c → to (shape ws) (hook p b) ≡ x → Along ws p b c x
walk_start ws p b c x r f e = record { valid = f.valid; under = f.under; above = f.above; leads = e; low = link_low ws r.size r.tree (hook p b) f.valid x e }

module _ (ws : List ℕ) (size : length ws ≡ tree_words) (t : Tree (shape ws)) (p b c : ℕ) where
  pub walk_on : (x v y : ℕ) → ¬ (x ≡ 0) → Along ws p b c x → v ≡ cell_of (word ws x) → v < c → y ≡ next_of (word ws x) → Along ws p x c y
  walk_on zero v y h w e l f = absurd (h refl)
  walk_on (suc k) v y h w e l f =
      let g = t.goes (hook p b) w.valid w.leads in
      record { valid = g.used; under = g.under ∙ w.under; above = omega arith; leads = sym f; low = link_low ws size t (after k) g.used y (sym f) }

  pub walk_less : (x v : ℕ) → ¬ (x ≡ 0) → Along ws p b c x → v ≡ cell_of (word ws x) → v < c → c - floor (shape ws) (hook p x) < c - floor (shape ws) (hook p b)
  walk_less zero v h w e l = absurd (h refl)
  walk_less (suc k) v h w e l = let g = t.goes (hook p b) w.valid w.leads in omega (arith, g.above)

  pub walk_found : (x v : ℕ) → ¬ (x ≡ 0) → Along ws p b c x → v ≡ cell_of (word ws x) → c ≤ v → Found (shape ws) p b c
  walk_found zero v h w e l = absurd (h refl)
  walk_found (suc k) v h w e l = record {
    valid = w.valid;
    under = w.under;
    above = w.above;
    below = λ {k = y} q. let d : k ≡ y = omega (arith, sym w.leads ∙ q) in subst (λ (z : ℕ). c ≤ (shape ws).cell z) d (rw e at l);
  }

  pub walk_end : (x : ℕ) → x ≡ 0 → Along ws p b c x → Found (shape ws) p b c
  walk_end x e w = record { valid = w.valid; under = w.under; above = w.above; below = λ q. absurd (omega (arith, sym w.leads ∙ q)) }

-- ---- what was found

module _ {m : Shape} (t : Tree m) {p b c : ℕ} (f : Found m p b c) where
  -- where no child has the cell, the hook is the sorted one
  pub found_sorted : Absent m p c → Sorted m (hook p b) c
  found_sorted h = record {
    valid = f.valid;
    above = f.above;
    below = λ {x} e. let g = t.goes (hook p b) f.valid e in let d = h x g.used (g.under ∙ f.under) in omega (arith, f.below e);
  }

  -- where a child has it, it comes next
  pub found_child : (n : ℕ) → Used m n → m.parent n ≡ p → m.cell n ≡ c → to m (hook p b) ≡ suc n
  found_child n u e d = go q.2
    where
      q : (k : ℕ) × (to m (hook p b) ≡ suc k) × ((k ≡ n) ⊎ (m.cell k < m.cell n))
      q = ahead m t (hook p b) f.valid n u (e ∙ sym f.under) (omega (arith, f.above))

      go : (q.0 ≡ n) ⊎ (m.cell q.0 < m.cell n) → to m (hook p b) ≡ suc n
      go (inl x) = q.1 ∙ ap suc x
      go (inr x) = absurd (omega (arith, f.below q.1))

-- ---- down from the root: i cells have nodes, down to l

pub record Descending (m : Shape) (form : List ℕ) (l i : ℕ) : Type 0 where
  pub within : i ≤ length form
  pub at : Up m l (reverse (take i form))

pub descend_start : (m : Shape) (form : List ℕ) → Descending m form 0 0
descend_start m form = record { within = omega arith; at = top }

pub take_next : (form : List ℕ) (i : ℕ) → i < length form → reverse (take (suc i) form) ≡ get_or form i 0 ∷ reverse (take i form)
take_next form i h = ap reverse (take-suc form i 0 h) ∙ reverse-append (take i form) (get_or form i 0 ∷ [])

module _ (ws : List ℕ) (p b c x : ℕ) (r : Ready ws p) (f : Found (shape ws) p b c) where
  pub child_low : (p ≤ last_link) × (b ≤ last_link)
  child_low = (live_low ws r.size p r.live, hook_low ws r.size p b f.valid)

  module _ (e : to (shape ws) (hook p b) ≡ x) where
    pub next_low : x ≤ last_link
    next_low = link_low ws r.size r.tree (hook p b) f.valid x e

    -- the child that would have the cell is the one that comes next
    no_child : ((k : ℕ) → x ≡ suc k → ¬ ((shape ws).cell k ≡ c)) → Absent (shape ws) p c
    no_child h n u d g = h n (sym e ∙ found_child r.tree f n u d g) g

    pub none_comes : x ≡ 0 → Absent (shape ws) p c
    none_comes z = no_child (λ k q. absurd (omega arith))

    pub other_comes : (v : ℕ) → v ≡ cell_of (word ws x) → ¬ (v ≡ c) → Absent (shape ws) p c
    other_comes v h n = no_child (λ k q g. n (h ∙ ap (λ (y : ℕ). cell_of (word ws y)) q ∙ g))

    pub it_comes : (v : ℕ) → ¬ (x ≡ 0) → v ≡ cell_of (word ws x) → v ≡ c → IsChild (shape ws) p c x
    it_comes v n h q = go x refl
      where
        go : (y : ℕ) → x ≡ y → IsChild (shape ws) p c x
        go zero z = absurd (n z)
        go (suc k) z =
            let g = r.tree.goes (hook p b) f.valid (e ∙ z) in
            record { node = k; leads = z; used = g.used; parent = g.under ∙ f.under; cell = sym (ap (λ (y : ℕ). cell_of (word ws y)) z) ∙ sym h ∙ q }

module _ (ws form : List ℕ) (s : Sound ws) (l i : ℕ) (d : Descending (shape ws) form l i) where
  pub descend_ready : Ready ws l
  descend_ready = record { size = s.size; tree = s.tree; live = up_live d.at }

  module _ (hi : i < length form) (c : ℕ) (ec : c ≡ get_or form i 0) where
    pub descend_on : (x : ℕ) → IsChild (shape ws) l c x → Descending (shape ws) form x (i + 1)
    descend_on x w =
        let above = subst (λ (y : ℕ). Up (shape ws) y (reverse (take i form))) (sym w.parent) d.at in
        let up = down w.used (w.cell ∙ ec) above in
        rw (add-one i, w.leads) (record { within = hi; at = subst (λ (r : List ℕ). Up (shape ws) (suc w.node) r) (sym (take_next form i hi)) up })
