-- A node that has no child goes by one link and one bit, and the way up goes on at its parent
use mathlib.Core.Path.{◌≡◌, refl, sym, ap, ◌∙◌, subst}
use mathlib.Core.List.{List, ◌++◌}
use Prim.Native.Nat.{ℕ, zero, suc, ◌+◌, ◌-◌, ◌≤◌, ◌<◌}
use native.Mathlib.Omega.{arith}
use lib.ListN.{length, get_or, set, take, drop}
use Rattle.layout.specs.Layout.{map_words, nodes_at, last_link, tree_words}
use Rattle.bits.specs.Packed.{bits}
use Rattle.shape.specs.Shape.{Shape, Used, Live, Tree}
use Rattle.shape.specs.Order.{parent_live, childless}
use Rattle.shape.specs.Change.{Unlinks, Trimmed, root, stays, goes}
use Rattle.shape.specs.Unlink.{unlink_tree}
use Rattle.shape.specs.Effects.{Leads, unlinked}
use Rattle.shape.specs.Tally.{tally}
use Rattle.shape.specs.Tallies.{tally_more}
use Rattle.links.specs.Words.{cell_of, parent_of, first_of, next_of, word, shape, hook}
use Rattle.tree.specs.Promises.{Sound, Found}
use Rattle.tree.specs.Needs.{Childless, Unlinked}
use Rattle.links.specs.Limits.{used_low, live_low, hook_low}
use Rattle.tree.proofs.Stores.{node_word, flips}
use Rattle.tree.proofs.Walking.{found_child}
use Rattle.links.specs.Siblings.{Ready}

module _ (ws : List ℕ) (n p : ℕ) (l : Childless ws n) (ep : p ≡ parent_of (get_or ws (nodes_at + n) 0)) where
  pub leaf_ready : Ready ws p
  leaf_ready =
      let live = subst (λ (k : ℕ). Live (shape ws) k) (sym (ep ∙ ap parent_of (node_word ws n))) (parent_live (shape ws) l.tree n l.used) in
      record { size = l.size; tree = l.tree; live = live }

  module _ (b c x : ℕ) (ec : c ≡ cell_of (get_or ws (nodes_at + n) 0)) (ex : x ≡ next_of (get_or ws (nodes_at + n) 0)) (f : Found (shape ws) p b c) where
    pub leaf_low : (p ≤ last_link) × (b ≤ last_link) × (x < 65536)
    leaf_low = (live_low ws l.size p leaf_ready.live, hook_low ws l.size p b f.valid, omega arith)

    pub leaf_unlinked : (ws₁ map : List ℕ) → length ws₁ ≡ length ws → Leads (shape ws) (shape ws₁) (hook p b) x
        → length map ≡ length (take map_words ws₁) → bits map ≡ set (bits (take map_words ws₁)) n 0 → Unlinked (shape ws) (shape (map ++ drop map_words ws₁)) n
    leaf_unlinked ws₁ map same q long cleared =
        let e = node_word ws n in
        record {
          at = hook p b;
          unlinks = unlinked f.valid (found_child l.tree f n l.used (sym (ep ∙ ap parent_of e)) (sym (ec ∙ ap cell_of e))) l.leaf
              (subst (λ (k : ℕ). Leads (shape ws) (shape ws₁) (hook p b) k) (ex ∙ ap next_of e) q) (flips ws₁ map n 0 (same ∙ l.size) l.node long cleared);
        }

-- the loop: it is at the link l, and what trimming from there gives is the whole
pub record Trimming (ws₀ ws : List ℕ) (l₀ l : ℕ) : Type 0 where
  pub size : length ws ≡ tree_words
  pub tree : Tree (shape ws)
  pub live : Live (shape ws) l
  pub low : l ≤ last_link
  pub so_far : (m : Shape) → Trimmed (shape ws) l m → Trimmed (shape ws₀) l₀ m

pub trim_start : (ws : List ℕ) (n : ℕ) → Sound ws → Used (shape ws) n → Trimming ws ws (suc n) (suc n)
trim_start ws n s u = record { size = s.size; tree = s.tree; live = u; low = used_low ws s.size n u; so_far = λ m x. x }

module _ (ws₀ ws : List ℕ) (l₀ : ℕ) where
  pub trim_end : (l : ℕ) → l ≡ 0 → Trimming ws₀ ws l₀ l → Trimmed (shape ws₀) l₀ (shape ws)
  trim_end zero e t = t.so_far (shape ws) root
  trim_end (suc n) e t = absurd (omega arith)

  pub trim_stays : (l f : ℕ) → ¬ (l ≡ 0) → f ≡ first_of (word ws l) → ¬ (f ≡ 0) → Trimming ws₀ ws l₀ l → Trimmed (shape ws₀) l₀ (shape ws)
  trim_stays zero f h e k t = absurd (h refl)
  trim_stays (suc n) zero h e k t = absurd (k refl)
  trim_stays (suc n) (suc j) h e k t = t.so_far (shape ws) (stays (sym e))

  pub trim_leaf : (l f : ℕ) → ¬ (l ≡ 0) → f ≡ first_of (word ws l) → f ≡ 0 → Trimming ws₀ ws l₀ l → Childless ws (l - 1)
  trim_leaf zero f h e k t = absurd (h refl)
  trim_leaf (suc n) f h e k t =
      let q : n ≡ suc n - 1 = omega arith in
      subst (λ (j : ℕ). Childless ws j) q (record { size = t.size; node = t.low; tree = t.tree; used = t.live; leaf = sym e ∙ k })

  module _ (ws' : List ℕ) where
    at_node : (n : ℕ) (u : Unlinked (shape ws) (shape ws') (suc n - 1)) → Unlinks (shape ws) (shape ws') u.at n
    at_node n u = let q : suc n - 1 ≡ n = omega arith in subst (λ (j : ℕ). Unlinks (shape ws) (shape ws') u.at j) q u.unlinks

    pub trim_on : (l p : ℕ) → ¬ (l ≡ 0) → Trimming ws₀ ws l₀ l → length ws' ≡ length ws → Unlinked (shape ws) (shape ws') (l - 1) → p ≡ parent_of (word ws l)
        → Trimming ws₀ ws' l₀ p
    trim_on zero p h t e u ep = absurd (h refl)
    trim_on (suc n) p h t e u ep = subst (λ (z : ℕ). Trimming ws₀ ws' l₀ z) (sym ep) (record {
      size = e ∙ t.size;
      tree = unlink_tree (shape ws) (shape ws') u.at n t.tree k;
      live = live';
      low = live_low ws' (e ∙ t.size) ((shape ws).parent n) live';
      so_far = λ m x. t.so_far m (goes u.at k x);
    })
      where
        k : Unlinks (shape ws) (shape ws') u.at n
        k = at_node n u

        still : (l : ℕ) → Live (shape ws) l → ¬ (l ≡ suc n) → Live (shape ws') l
        still zero v h = tt
        still (suc y) v h = k.kept.used y (λ d. h (ap suc d)) ∙ v

        live' : Live (shape ws') ((shape ws).parent n)
        live' = still ((shape ws).parent n) (parent_live (shape ws) t.tree n t.live) (λ d. childless (shape ws) t.tree (suc n) k.leaf n t.live d)

    pub trim_less : (l : ℕ) → ¬ (l ≡ 0) → Trimming ws₀ ws l₀ l → Unlinked (shape ws) (shape ws') (l - 1)
        → tally (shape ws').used last_link < tally (shape ws).used last_link
    trim_less zero h t u = absurd (h refl)
    trim_less (suc n) h t u =
        let k = at_node n u in
        less (tally_more (shape ws').used (shape ws).used n last_link t.low k.gone t.live (λ y q. sym (k.kept.used y q)))
      where
        less : {a b : ℕ} → a ≡ suc b → b < a
        less e = omega arith
