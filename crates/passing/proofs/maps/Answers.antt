-- Memory has the words of the maps.
use Rattle.std.proofs.Common.{arith, length-take}
use Rattle.passing.proofs.maps.Goals as goal

pub slice_bounds-copy_from_slice-end-2 : goal.slice_bounds-copy_from_slice-end-2
slice_bounds-copy_from_slice-end-2 c = omega (arith, length-take 72 c.args.m.now, c.requires)
