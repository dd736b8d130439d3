-- What is promised of the way along siblings.
use Rattle.std.specs.Prelude.{◌≡◌, refl, ◌⊎◌, List, ℕ, zero, suc, ◌≤◌, ◌<◌, length}
use Rattle.std.proofs.Common.{arith}
use Rattle.layout.specs.Layout.{last_link, tree_words}
use Rattle.shape.specs.Shape.{Shape, Hook, Used, Live, Valid, to, owner, floor, Tree}
use Rattle.links.specs.Words.{cell_of, parent_of, next_of, shape, hook}
use Rattle.links.specs.Limits.{used_low}

-- a walk among the children of p
pub record Ready (ws : List ℕ) (p : ℕ) : Type 0 where
  pub size : length ws ≡ tree_words
  pub tree : Tree (shape ws)
  pub live : Live (shape ws) p

-- the cell c has its hook among the children of p, behind b or further on
pub record Before (m : Shape) (p b c : ℕ) : Type 0 where
  pub valid : Valid m (hook p b)
  pub under : owner m (hook p b) ≡ p
  pub above : floor m (hook p b) ≤ c

-- The link f leads to a used sibling further on than the node with the word w, with a cell of `most` at the most
pub record Further (m : Shape) (w most f : ℕ) : Type 0 where
  pub node : ℕ
  pub leads : f ≡ suc node
  pub used : Used m node
  pub beside : m.parent node ≡ parent_of w
  pub further : cell_of w < m.cell node
  pub near : m.cell node ≤ most

-- The link x itself, or a sibling of its node further on
abbrev pub Leap : Shape → (x w most r : ℕ) → Type 0
Leap m x w most r = (r ≡ x) ⊎ Further m w most r

-- The next sibling, or one further on
abbrev pub Onward : Shape → ℕ → ℕ → ℕ → Type 0
Onward m w most r = (r ≡ next_of w) ⊎ Further m w most r

-- ---- laws

-- where a link leads there is a node of the memory
pub link_low : (ws : List ℕ) → length ws ≡ tree_words → Tree (shape ws) → (s : Hook) → Valid (shape ws) s → (x : ℕ) → to (shape ws) s ≡ x → x ≤ last_link
link_low ws size t s v zero e = omega arith
link_low ws size t s v (suc k) e = used_low ws size k (t.goes s v e).used

-- before all children
pub before_all : (ws : List ℕ) (p c : ℕ) → Ready ws p → Before (shape ws) p 0 c
before_all ws p c r = record { valid = r.live; under = refl; above = omega arith }
