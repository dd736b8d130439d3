-- The words of a tree as crates/layout/specs/Layout draws them: the two maps, and a word for each link, the root's first: cell, parent,
-- first child, next sibling, 16 bits each, the top field first. Rule r hangs in the tree as the node 4,096 + r
use Rattle.std.specs.Prelude.{◌≡◌, List, ℕ, zero, suc, ◌+◌, ◌/◌, ◌%◌, get_or, take}
use Rattle.layout.specs.Layout.{map_words, links_at}
use Rattle.shape.specs.Shape.{Shape, Hook, child, after}
use Rattle.shape.specs.Tally.{marked}

abbrev pub cell_of : ℕ → ℕ
cell_of w = w / 281474976710656

abbrev pub parent_of : ℕ → ℕ
parent_of w = w / 4294967296 % 65536

abbrev pub first_of : ℕ → ℕ
first_of w = w / 65536 % 65536

abbrev pub next_of : ℕ → ℕ
next_of w = w % 65536

-- the word of a link
abbrev pub word : List ℕ → ℕ → ℕ
word ws l = get_or ws (links_at + l) 0

abbrev pub shape : List ℕ → Shape
shape ws = record {
  used = marked (take map_words ws);
  cell = λ n. cell_of (word ws (suc n));
  parent = λ n. parent_of (word ws (suc n));
  next = λ n. next_of (word ws (suc n));
  first = λ l. first_of (word ws l);
}

-- the fields of a word
pub record Node (w c p f x : ℕ) : Type 0 where
  pub cell : cell_of w ≡ c
  pub parent : parent_of w ≡ p
  pub first : first_of w ≡ f
  pub next : next_of w ≡ x

-- a hook as the code has it: the owner's link and that of the sibling before, or 0
abbrev pub hook : ℕ → ℕ → Hook
hook p zero = child p
hook p (suc k) = after k
