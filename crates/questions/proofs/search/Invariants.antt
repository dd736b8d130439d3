-- What was found so far, and what the points on the list have yet to give, is all that there is to find, and each turn leaves less of it.
use Rattle.std.proofs.Common.{◌≡◌}
use Rattle.questions.proofs.Searching.{left, Loop}
use Rattle.questions.proofs.search.Given as goal

abbrev pub invariant-loop-way : goal.invariant-loop-way
invariant-loop-way l = record {
  loop : Loop l.fills_question l.fills_rule l.m l.question l.fn.marks l.marks l.points.list.now l.points.depth;
  same : l.points.list.ghost_name ≡ l.initial.points.list.ghost_name;
}

abbrev pub decreases-loop-way : goal.decreases-loop-way
decreases-loop-way l = left l.m l.points.list.now l.points.depth
