-- The part is cut where `part_of` says, and that lies within the table.
use Rattle.std.proofs.Common.{arith}
use Rattle.names.proofs.Writing.{part_inside}
use Rattle.names.proofs.name_of.Goals as goal

pub slice_bounds-result-end : goal.slice_bounds-result-end
slice_bounds-result-end c = omega (arith, part_inside _ _ _ c.in-Ok.ensures)
