-- A word goes on over each byte of a word, and ends before any other and at the end.
use Rattle.std.proofs.Common.{Ok, rules}
use Rattle.tokens.proofs.Steps.{going_on, going_ends, bare_on, bare_stop, bare_over}
use Rattle.tokens.proofs.bare.Goals as goal

pub returns-then-not-is_word-clause-is : goal.returns-then-not-is_word-clause-is
returns-then-not-is_word-clause-is c =
    going_ends c.loop-i.invariant.going _ (Ok c.loop-i.i) (bare_stop _ _ c.loop-i-test.true c.if-not-is_word.ensures) (search rules)

pub loop-i-preserved : goal.loop-i-preserved
loop-i-preserved c = record {
  same_buffer = search rules;
  going = going_on c.loop-i.invariant.going _ _ _ _ (bare_on _ _ c.loop-i-test.true c.if-not-is_word.ensures) c.put.ensures.is;
}

pub returns-clause-is : goal.returns-clause-is
returns-clause-is c = going_ends c.loop-i.invariant.going _ (Ok _) (bare_over _ _ c.loop-i-test.false) (search rules)
