-- The first hook, then down, along and back, until nothing is before the walk.
use Rattle.layout.specs.Layout.{last_link}
use Rattle.shape.specs.Tally.{tally, marked}
use Rattle.passing.proofs.Ending.{Checking}
use Rattle.passing.proofs.passes.Given as goal

abbrev pub invariant-loop-end : goal.invariant-loop-end
invariant-loop-end l = Checking l.m l.left l.way l.wants l.stack l.at

abbrev pub decreases-loop-end : goal.decreases-loop-end
decreases-loop-end l = tally (marked l.left) last_link
