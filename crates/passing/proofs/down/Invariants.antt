-- Node by node: a step that is refused is one that no memory which passes refuses, and each step is one level lower.
use Rattle.std.proofs.Common.{◌-◌}
use Rattle.passing.proofs.Downing.{Downing}
use Rattle.passing.proofs.down.Given as goal

abbrev pub invariant-loop-k : goal.invariant-loop-k
invariant-loop-k l = Downing l.m l.fn.left l.left l.way l.wants l.stack l.at l.k l.word

abbrev pub decreases-loop-k : goal.decreases-loop-k
decreases-loop-k l = 32 - l.at.depth
