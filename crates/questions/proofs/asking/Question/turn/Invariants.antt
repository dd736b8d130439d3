-- Each way through the loop leaves the sibling, the child, both or the point that waits, or is the turn's end.
use Rattle.std.proofs.Common.{◌+◌}
use Rattle.questions.specs.Promises.{size_at, point, point_of}
use Rattle.questions.proofs.Turns.{Turning}
use Rattle.questions.proofs.asking.Question.turn.Given as goal

abbrev pub invariant-loop-at : goal.invariant-loop-at
invariant-loop-at l =
    Turning l.self.fills_question l.self.fills_rule l.self.m.now l.self.cells.now l.fn.marks (point l.fn.first) l.marks l.at l.waiting

abbrev pub decreases-loop-at : goal.decreases-loop-at
decreases-loop-at l = size_at l.self.m.now (point_of l.at).link + size_at l.self.m.now (point_of l.waiting).link
