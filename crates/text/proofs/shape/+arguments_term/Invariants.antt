-- Arguments call a term with as many cells left, and a term calls arguments with one cell less: so twice the cells left fall, with
-- one more for arguments.
use Rattle.std.proofs.Common.{◌+◌, ◌-◌, ◌*◌}
use Rattle.text.proofs.shape.+arguments_term.Given as goal

abbrev pub decreases-arguments : goal.decreases-arguments
decreases-arguments l = 2 * (32 - l.notes.now.size) + 1

abbrev pub decreases-term : goal.decreases-term
decreases-term l = 2 * (32 - l.notes.now.size)
