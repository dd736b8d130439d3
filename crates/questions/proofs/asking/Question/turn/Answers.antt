-- Each way through the loop leaves the sibling, the child, both or the point that waits, or is the turn's end.
use Rattle.questions.proofs.Turns.{begins, ends, stepped, passes, turns_back, descends, leaves_one, parts_here}
use Rattle.questions.proofs.asking.Question.turn.Goals as goal

pub loop-at-init : goal.loop-at-init
loop-at-init c = begins c.requires.ready c.requires.map c.at_node-at.ensures

pub loop-at-preserved-in-None-None : goal.loop-at-preserved-in-None-None
loop-at-preserved-in-None-None c = turns_back (stepped c.loop-at.invariant c.in-Some.is c.try_point-ways.ensures c.in-None-None.is-0 c.in-None-None.is-1)

pub loop-at-preserved-in-None-Some : goal.loop-at-preserved-in-None-Some
loop-at-preserved-in-None-Some c = passes (stepped c.loop-at.invariant c.in-Some.is c.try_point-ways.ensures c.in-None-Some.is-0 c.in-None-Some.is-1)

pub loop-at-preserved-in-Some-None : goal.loop-at-preserved-in-Some-None
loop-at-preserved-in-Some-None c = descends (stepped c.loop-at.invariant c.in-Some.is c.try_point-ways.ensures c.in-Some-None.is-0 c.in-Some-None.is-1)

pub returns-in-Some-waiting : goal.returns-in-Some-waiting
returns-in-Some-waiting c =
    parts_here (stepped c.loop-at.invariant c.in-Some.is c.try_point-ways.ensures c.in-Some-Some.is-0 c.in-Some-Some.is-1) c.in-Some-waiting.is

pub loop-at-preserved : goal.loop-at-preserved
loop-at-preserved c =
    leaves_one (stepped c.loop-at.invariant c.in-Some.is c.try_point-ways.ensures c.in-Some-Some.is-0 c.in-Some-Some.is-1) c.in_default-waiting.is

pub returns : goal.returns
returns c = ends c.loop-at.invariant c.in_default.is
