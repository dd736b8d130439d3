-- Where nothing is wanted any more `past` stops, and a turn is one clause of it.
use Rattle.std.proofs.Common.{◌∙◌, arith}
use Rattle.term.proofs.Spots.{past_turn, past_stop}
use Rattle.term.proofs.machine.past.Goals as goal

pub returns-then-wanted-eq0 : goal.returns-then-wanted-eq0
returns-then-wanted-eq0 c = let l = c.loop-at in past_stop _ l.at l.wanted _ _ c.if-wanted-eq0.true (omega arith) l.invariant.same

pub loop-at-preserved : goal.loop-at-preserved
loop-at-preserved c =
    let l = c.loop-at in
    record {
      few = omega arith;
      same = past_turn c.args.question.now l.at l.wanted _ (omega arith) (omega arith) c.arity.ensures.0 ∙ l.invariant.same;
    }
