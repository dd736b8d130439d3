-- The tree that memory holds, unfolded by first child and next sibling
use Rattle.std.specs.Prelude.{List, [], ◌∷◌, ◌++◌, ℕ, zero, suc, ◌*◌, ◌≤◌, ◌<◌, max, length}
use Rattle.shape.specs.Shape.{Shape, Used, Up}

pub data Trie : Type 0 where
  tip : Trie
  node : (n : ℕ) (below beside : Trie) → Trie

-- the node that a link leads to, with its children below and its later siblings beside, as deep as the fuel lasts
unfoldable pub unfolded : Shape → ℕ → ℕ → Trie
unfolded m zero l = tip
unfolded m (suc f) zero = tip
unfolded m (suc f) (suc n) = node n (unfolded m f (m.first (suc n))) (unfolded m f (m.next n))

-- Enough for 33 levels of 65,536 siblings. Not an abbreviation, so that nothing counts down from it
unfoldable pub FUEL : ℕ
FUEL = 34 * 65536

abbrev pub trie : Shape → ℕ → Trie
trie m l = unfolded m FUEL l

-- the nodes of a trie that stands under the row p, each with its row
abbrev pub rows : Shape → List ℕ → Trie → List (ℕ × List ℕ)
rows m p tip = []
rows m p (node n l r) = (n, m.cell n ∷ p) ∷ (rows m (m.cell n ∷ p) l ++ rows m p r)

abbrev pub height : Trie → ℕ
height tip = 0
height (node n l r) = max (suc (height l)) (height r)

-- rows are at most 33 long, and a cell has 16 bits
pub record Bounded (m : Shape) : Type 0 where
  pub small : (n : ℕ) → Used m n → m.cell n < 65536
  pub shallow : (n : ℕ) (r : List ℕ) → Up m (suc n) r → length r ≤ 33
