-- What the cells say of the blanks, the record's fields say.
use Rattle.std.proofs.Common.{arith, drop, length-drop}
use Rattle.std.proofs.lemmas.List.{take_all}
use Rattle.recorded.proofs.Ruling.{term_decided}
use Rattle.recorded.proofs.is_term.Goals as goal

pub returns-then-is_whole : goal.returns-then-is_whole
returns-then-is_whole c =
    let way = c.args.way.words.now in
    term_decided c.load_term-cells.ensures (take_all _ (drop 1 way) (omega (arith, length-drop 1 way))) (omega (arith, c.args.way.short)) (c.is_whole.ensures.yes c.if-is_whole.true)
    (c.zeros_from.ensures.yes c.if-not-zeros_from.false) c.same_blanks.ensures
