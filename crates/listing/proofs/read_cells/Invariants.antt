-- The cells from i on are still to be made, of the bytes that are left.
use Rattle.std.proofs.Common.{◌≡◌}
use Rattle.std.proofs.Math.Seq.{sets}
use Rattle.listing.specs.Listing.{cells_in}
use Rattle.listing.proofs.read_cells.Given as goal

abbrev pub invariant-loop-i : goal.invariant-loop-i
invariant-loop-i l = sets l.cells l.i (cells_in l.rest) ≡ sets l.fn.cells 0 (cells_in l.bytes)
