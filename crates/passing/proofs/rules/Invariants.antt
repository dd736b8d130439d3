-- Rule by rule; each that is come to is one less of those left.
use Rattle.layout.specs.Layout.{last_link}
use Rattle.shape.specs.Tally.{tally, marked}
use Rattle.passing.proofs.Along.{Ruling}
use Rattle.passing.proofs.rules.Given as goal

abbrev pub invariant-loop-w : goal.invariant-loop-w
invariant-loop-w l = Ruling l.m l.fn.left l.left l.way l.wants l.stack l.fn.at.depth l.fn.at.top l.at

abbrev pub decreases-loop-w : goal.decreases-loop-w
decreases-loop-w l = tally (marked l.left) last_link
