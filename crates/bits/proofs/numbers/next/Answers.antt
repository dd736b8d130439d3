-- The rest of the first word is looked at; then the head leads to the next word that counts, and that has a number.
use Rattle.std.proofs.Common.{refl, arith, ◌/◌}
use Rattle.bits.specs.Laws.{length_parts}
use Rattle.bits.proofs.Numbering.{in_none, in_next}
use Rattle.bits.proofs.numbers.next.Goals as goal

pub returns-in_err-i : goal.returns-in_err-i
returns-in_err-i c =
    rw c.from_residual.ensures
    (in_none c.args.map.now c.requires.number_set c.args.from (c.args.from / 64) refl c.if-from-ge4096.false c.in_default.ensures c.in_err-i.ensures)

pub in_word-requires-2-clause-q_bound : goal.in_word-requires-2-clause-q_bound
in_word-requires-2-clause-q_bound c = let h = c.in_ok-i.ensures in omega (arith, length_parts)

pub returns : goal.returns
returns c =
    in_next c.args.map.now c.requires.number_set c.args.from (c.args.from / 64) refl c.if-from-ge4096.false c.in_default.ensures c.in_ok-i.i c.in_ok-i.ensures
    c.in_word-2.result c.in_word-2.ensures
