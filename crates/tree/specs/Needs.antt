-- What the inner functions ask for, and promise to each other
use Rattle.std.specs.Prelude.{◌≡◌, List, Option, Some, None, false, ℕ, suc, ◌+◌, ◌≤◌, ◌<◌, length, get_or}
use Rattle.layout.specs.Layout.{nodes_limit, last_link, tree_words}
use Rattle.shape.specs.Shape.{Shape, Hook, Used, Live, Valid, Tree}
use Rattle.shape.specs.Shape as shapes
use Rattle.shape.specs.Change.{Unlinks}
use Rattle.shape.specs.Tally.{tally}
use Rattle.links.specs.Words.{shape, hook}
use Rattle.tree.specs.Promises.{Absent, Found}

-- a hook of p for the free node n with the cell c
pub record Room (ws : List ℕ) (p b n c : ℕ) : Type 0 where
  pub size : length ws ≡ tree_words
  pub owner : p ≤ last_link
  pub sibling : b ≤ last_link
  pub node : n < last_link
  pub cell : c < 65536
  pub free : (shape ws).used n ≡ false
  pub valid : Valid (shape ws) (hook p b)
  pub under : shapes.owner (shape ws) (hook p b) ≡ p

-- the cell i of the form, where there is one, has its hook among the children of l behind b
abbrev pub Next : Shape → List ℕ → ℕ → ℕ → ℕ → Type 0
Next m form l i b = i < length form → Found m l b (get_or form i 0)

-- the link l leads to a child of p with the cell c
pub record IsChild (m : Shape) (p c l : ℕ) : Type 0 where
  pub node : ℕ
  pub leads : l ≡ suc node
  pub used : Used m node
  pub parent : m.parent node ≡ p
  pub cell : m.cell node ≡ c

-- the child of p with the cell c, or that there is none
abbrev pub ChildWith : Shape → ℕ → ℕ → Option ℕ → Type 0
ChildWith m p c None = Absent m p c
ChildWith m p c (Some l) = IsChild m p c l

-- the cells of the form from i on are to grow under l, the first of them behind b, and there is room for them
pub record Growing (ws : List ℕ) (l b : ℕ) (form : List ℕ) (i : ℕ) : Type 0 where
  pub size : length ws ≡ tree_words
  pub tree : Tree (shape ws)
  pub live : Live (shape ws) l
  pub absent : i < length form → Absent (shape ws) l (get_or form i 0)
  pub found : Next (shape ws) form l i b
  pub room : tally (shape ws).used nodes_limit + length form ≤ nodes_limit + i
  pub within : i ≤ length form

pub record Childless (ws : List ℕ) (n : ℕ) : Type 0 where
  pub size : length ws ≡ tree_words
  pub node : n < last_link
  pub tree : Tree (shape ws)
  pub used : Used (shape ws) n
  pub leaf : (shape ws).first (suc n) ≡ 0

pub record Unlinked (m m' : Shape) (n : ℕ) : Type 0 where
  pub at : Hook
  pub unlinks : Unlinks m m' at n
