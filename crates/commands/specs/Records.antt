-- Records as cells: Reference 7.
use Rattle.std.specs.Prelude.{List, [], ◌∷◌, ◌++◌, ℕ, ◌+◌, ◌*◌, length}

-- A record: its refusal, and its further cells.
pub record Record : Type 0 where
  pub refusal : ℕ
  pub cells : List ℕ

-- One cell, 4 bits refusal and 12 bits count, and then that many cells.
abbrev pub cells_of : Record → List ℕ
cells_of r = (4096 * r.refusal + length r.cells) ∷ r.cells

-- Records one after another.
unfoldable pub written : List Record → List ℕ
written [] = []
written (r ∷ rs) = cells_of r ++ written rs

-- A record without further cells.
abbrev pub bare : ℕ → Record
bare refusal = record { refusal = refusal; cells = [] }

-- A good record.
abbrev pub good : List ℕ → Record
good cells = record { refusal = 0; cells = cells }
