-- A symbol is the one wanted; a blank that may not be filled is met by blanks alone.
use Rattle.std.proofs.Common.{sym, subst}
use Rattle.questions.specs.Promises.{Decisive}
use Rattle.questions.proofs.Siblings.{one_symbol, no_symbols}
use Rattle.questions.proofs.asking.Question.wanted.Goals as goal

pub returns-then-c-lt-MARK : goal.returns-then-c-lt-MARK
returns-then-c-lt-MARK c = let q = c.args.self.now in
    subst (Decisive q.fills_question q.cells.now c.args.place) (sym c.from.ensures)
    (one_symbol q.fills_question q.cells.now c.args.place c.requires c.if-c-lt-MARK.true)

pub returns : goal.returns
returns c = let q = c.args.self.now in no_symbols q.fills_question q.cells.now c.args.place c.requires c.if-c-lt-MARK.false c.if-self.false
