-- At a newline or the end what is left of the comment is what is left of a gap.
use Rattle.std.proofs.Common.{◌≡◌, length, ◌∙◌, arith}
use Rattle.tokens.proofs.Steps.{comment_newline, comment_on, comment_over}
use Rattle.tokens.proofs.comment_end.Goals as goal

pub returns-then-text-i-eq10 : goal.returns-then-text-i-eq10
returns-then-text-i-eq10 c =
    (omega arith, omega arith, comment_newline _ _ c.loop-i-test.true c.if-text-i-eq10.true ∙ c.loop-i.invariant.2)

pub loop-i-preserved : goal.loop-i-preserved
loop-i-preserved c =
    (omega arith, omega arith, comment_on _ _ c.loop-i-test.true (λ e. omega arith) ∙ c.loop-i.invariant.2)

pub returns : goal.returns
returns c =
    let e : length c.args.text.now ≡ c.loop-i.i = omega arith in
    (omega arith, omega arith, rw e (comment_over _ _ c.loop-i-test.false ∙ c.loop-i.invariant.2))
