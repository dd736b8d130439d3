-- The two cells meet in one of seven ways, and each is a law of the machine's `meet`.
use Rattle.std.proofs.Common.{arith}
use Rattle.term.proofs.Spots.{same_cell_is, blank_blank, fill_question, keep_question, fill_rule, keep_rule, other_symbol}
use Rattle.term.proofs.machine.meet.Goals as goal

pub returns-then-c-d : goal.returns-then-c-d
returns-then-c-d c = same_cell_is _ _ _ _ _ (omega arith) c.if-c-d.true

pub returns-in-true-true : goal.returns-in-true-true
returns-in-true-true c = blank_blank _ _ _ _ _ (omega arith) c.in-true-true.is-1 c.in-true-true.is-0

pub returns-in-false-true : goal.returns-in-false-true
returns-in-false-true c =
    fill_question _ _ _ _ _ (omega arith) c.in-false-true.is-1 c.in-false-true.is-0 _ c.arity-in-false-true.ensures c.if-fills_question.true

pub returns-in-true-false : goal.returns-in-true-false
returns-in-true-false c =
    fill_rule _ _ _ _ _ (omega arith) c.in-true-false.is-1 c.in-true-false.is-0 _ _ c.arity.ensures.0 c.past.ensures c.if-fills_rule.true

pub returns-in_default-2 : goal.returns-in_default-2
returns-in_default-2 c = keep_rule _ _ _ _ _ (omega arith) c.in-true-false.is-1 c.in-true-false.is-0 c.if-fills_rule.false

pub returns-in_default-2-2 : goal.returns-in_default-2-2
returns-in_default-2-2 c = keep_question _ _ _ _ _ (omega arith) c.in-false-true.is-1 c.in-false-true.is-0 c.if-fills_question.false

pub returns-in_default-2-3 : goal.returns-in_default-2-3
returns-in_default-2-3 c = other_symbol _ _ _ _ _ (omega arith) c.in_default-2.is-1 c.in_default-2.is-0 c.if-c-d.false
