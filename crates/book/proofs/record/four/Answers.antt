-- Past the end all four are 0; else each cell is a digit to the base 65,536.
use Rattle.std.proofs.Common.{◌∙◌, arith}
use Rattle.book.specs.Filling.{fours_past, fours_are}
use Rattle.book.proofs.record.four.Goals as goal

pub returns-then-term-i : goal.returns-then-term-i
returns-then-term-i c = fours_past c.args.term.now c.args.i c.if-term-i.true

pub returns : goal.returns
returns c =
    fours_are c.args.term.now c.args.i c.from-a.result c.from-b.result c.from-c.result c.from-d.result
    (omega arith) (omega arith) (omega arith) (omega arith)
    (c.from-a.ensures ∙ c.cell_or_zero.ensures) (c.from-b.ensures ∙ c.cell_or_zero-2.ensures)
    (c.from-c.ensures ∙ c.cell_or_zero-3.ensures) (c.from-d.ensures ∙ c.cell_or_zero-4.ensures)
