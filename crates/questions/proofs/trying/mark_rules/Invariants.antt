-- What is marked so far and the siblings still to come are all of them, and each turn marks one.
use Rattle.questions.specs.Promises.{size_at}
use Rattle.questions.proofs.Marking.{Marking}
use Rattle.questions.proofs.trying.mark_rules.Given as goal

abbrev pub invariant-loop-x : goal.invariant-loop-x
invariant-loop-x l = Marking l.m l.fn.marks l.link l.marks l.x

abbrev pub decreases-loop-x : goal.decreases-loop-x
decreases-loop-x l = size_at l.m l.x
