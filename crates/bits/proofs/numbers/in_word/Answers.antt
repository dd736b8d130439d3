-- A word that counts has the set's numbers as its bits; one that does not has none.
use Rattle.std.proofs.Common.{Some, None, sym, ◌∙◌, arith}
use Rattle.bits.specs.Laws.{length_parts}
use Rattle.bits.proofs.Numbering.{of_word}
use Rattle.bits.proofs.numbers.in_word.Goals as goal

pub returns-in_err-bit : goal.returns-in_err-bit
returns-in_err-bit c =
    let r = c.requires in
    let counts = sym c.is_marked.ensures ∙ c.if-not-is_marked.false in
    rw c.from_residual.ensures (of_word c.args.map.now c.args.q c.args.from r.q_bound r.from_bound counts None c.in_err-bit.ensures)

pub overflow_add-result : goal.overflow_add-result
overflow_add-result c = let h = c.in_ok-bit.ensures in omega (arith, length_parts)

pub returns : goal.returns
returns c =
    let r = c.requires in
    let counts = sym c.is_marked.ensures ∙ c.if-not-is_marked.false in
    of_word c.args.map.now c.args.q c.args.from r.q_bound r.from_bound counts (Some c.in_ok-bit.bit) c.in_ok-bit.ensures
