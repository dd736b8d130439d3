-- Each cell passed is the field of the same index, and those behind are zero on both sides
use Rattle.std.proofs.Common.{◌-◌}
use Rattle.book.specs.Filling.{Loading}
use Rattle.book.proofs.record.load_term.Given as goal

abbrev pub invariant-loop-i : goal.invariant-loop-i
invariant-loop-i l = Loading l.words l.cells l.i

abbrev pub decreases-loop-i : goal.decreases-loop-i
decreases-loop-i l = l.size - l.i
