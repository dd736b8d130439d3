-- A name goes on over each byte but its closing quote, two of them where the first is a backslash.
use Rattle.std.proofs.Common.{Ok, Err, ◌+◌, rules}
use Rattle.tokens.proofs.Steps.{going_on, going_same, going_ends, quoted_on, quoted_stop, quoted_slash, quoted_over, escaped_on, escaped_stop}
use Rattle.tokens.proofs.quoted.Goals.{then-escaped+else-not-is_escaped, else-escaped+else-byte-eq39+then-byte-eq92, else-escaped+else-byte-eq39+else-byte-eq92}
use Rattle.tokens.proofs.quoted.Goals as goal

pub returns-then-not-is_escaped-clause-is : goal.returns-then-not-is_escaped-clause-is
returns-then-not-is_escaped-clause-is c =
    going_ends (rw c.if-escaped.true at c.loop-i.invariant.going) _ (Err (record { at = c.loop-i.i }))
    (escaped_stop _ _ c.loop-i-test.true c.if-not-is_escaped.ensures) (search rules)

pub returns-then-byte-eq39-clause-is : goal.returns-then-byte-eq39-clause-is
returns-then-byte-eq39-clause-is c =
    going_ends (rw c.if-escaped.false at c.loop-i.invariant.going) _ (Ok (c.loop-i.i + 1))
    (quoted_stop _ _ c.loop-i-test.true c.if-byte-eq39.true) (search rules)

pub loop-i-preserved : goal.loop-i-preserved
loop-i-preserved c =
    elim c.if-escaped.branch [
      | then-escaped+else-not-is_escaped w ↦ rw (w.kept-is, w.escaped-is) (record {
        same_buffer = search rules;
        going = going_on (rw w.if-escaped.true at c.loop-i.invariant.going) _ _ _ _ (escaped_on _ _ c.loop-i-test.true w.if-not-is_escaped.ensures) w.put.ensures.is;
      })
      | else-escaped+else-byte-eq39+then-byte-eq92 w ↦ rw (w.kept-is, w.escaped-is) (record {
        same_buffer = search rules;
        going = going_same (rw w.if-escaped.false at c.loop-i.invariant.going) _ (quoted_slash _ _ c.loop-i-test.true w.if-byte-eq92.true);
      })
      | else-escaped+else-byte-eq39+else-byte-eq92 w ↦ rw (w.kept-is, w.escaped-is, w.if-escaped.false) (record {
        same_buffer = search rules;
        going = going_on (rw w.if-escaped.false at c.loop-i.invariant.going) _ _ _ _ (quoted_on _ _ c.loop-i-test.true w.if-byte-eq39.false w.if-byte-eq92.false)
            w.put-else-byte-eq92.ensures.is;
      })
    ]

pub returns-clause-is : goal.returns-clause-is
returns-clause-is c = going_ends c.loop-i.invariant.going _ (Err (record { at = _ })) (quoted_over _ _ c.loop-i.escaped c.loop-i-test.false) (search rules)
