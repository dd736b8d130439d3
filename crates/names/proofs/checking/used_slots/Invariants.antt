-- Each turn adds one slot to those that the names so far are written in.
use Rattle.names.specs.Index.{Indexed}
use Rattle.names.specs.Leaves.{UsedTo}
use Rattle.names.proofs.checking.used_slots.Given as goal

abbrev pub invariant-loop-slot : goal.invariant-loop-slot
invariant-loop-slot l = UsedTo l.table l.slot × Indexed l.table l.slot l.index
