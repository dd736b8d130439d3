-- Each link on the way is that of a node in use, and there is less tree behind it.
use Rattle.questions.specs.Promises.{PassesBy, Threaded, size_at}
use Rattle.questions.proofs.seeking.sibling.Given as goal

abbrev pub invariant-loop-x : goal.invariant-loop-x
invariant-loop-x l = record { threaded : Threaded l.m l.x; by : PassesBy l.m l.cell l.link l.x }

abbrev pub decreases-loop-x : goal.decreases-loop-x
decreases-loop-x l = size_at l.m l.x
