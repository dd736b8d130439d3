-- The cells from the index on are left.
use Rattle.std.proofs.Common.{drop}
use Rattle.listing.specs.Listing.{hex_cells}
use Rattle.writing.specs.Texts.{Left}
use Rattle.listing.proofs.put_record.Given as goal

abbrev pub invariant-loop-cell : goal.invariant-loop-cell
invariant-loop-cell l = Left l.initial.text l.text (hex_cells (drop l.cell-index l.cells)) (hex_cells l.cells)
