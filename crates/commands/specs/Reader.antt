-- The next cell of a reader, and the place behind it.
use Rattle.std.specs.Prelude.{◌≡◌, List, [], ◌∷◌, ℕ, ◌+◌, ◌≤◌, ◌<◌, ltb, length, get_or, drop, Option, Some, None}
use Rattle.std.proofs.Common.{sym, ap, drop_of_length-le, drop-cons}
use Rattle.deciding.specs.Deciding.{pick}

-- The first of some cells.
abbrev pub cell_in : List ℕ → Option ℕ
cell_in [] = None
cell_in (c ∷ behind) = Some c

-- The place behind the cell at a place; where there is no cell, the place itself.
abbrev pub past : List ℕ → ℕ → ℕ
past cells at = pick (ltb at (length cells)) (at + 1) at

-- ---- laws

pub cell_here : (cells : List ℕ) (at : ℕ) → at < length cells → Some (get_or cells at 0) ≡ cell_in (drop at cells)
cell_here cells at h = sym (ap cell_in (drop-cons cells at 0 h))

pub cell_none : (cells : List ℕ) (at : ℕ) → length cells ≤ at → None ≡ cell_in (drop at cells)
cell_none cells at h = sym (ap cell_in (drop_of_length-le cells h))
