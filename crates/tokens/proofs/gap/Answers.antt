-- A blank and a comment are passed; at any other byte, and at the end, nothing is left of the gap.
use Rattle.std.proofs.Common.{◌∙◌, arith, rules}
use Rattle.tokens.proofs.Steps.{gap_blank, gap_comment, gap_stop, gap_over}
use Rattle.tokens.proofs.gap.Goals as goal

pub loop-i-preserved-then-is_blank : goal.loop-i-preserved-then-is_blank
loop-i-preserved-then-is_blank c =
    (omega arith, gap_blank _ _ c.loop-i-test.true c.if-is_blank.ensures ∙ c.loop-i.invariant.1)

pub loop-i-preserved : goal.loop-i-preserved
loop-i-preserved c =
    (search rules, c.comment_end-i.ensures.2 ∙ gap_comment _ _ c.loop-i-test.true c.if-byte-eq37.true ∙ c.loop-i.invariant.1)

pub returns-else-byte-eq37 : goal.returns-else-byte-eq37
returns-else-byte-eq37 c = record {
  rest_is = gap_stop _ _ c.loop-i-test.true c.if-is_blank.ensures c.if-byte-eq37.false ∙ c.loop-i.invariant.1;
  within = search rules;
}

pub returns : goal.returns
returns c = record { rest_is = gap_over _ _ c.loop-i-test.false ∙ c.loop-i.invariant.1; within = search rules }
