-- Room is asked for first; then the book's answer is the record's refusal.
use Rattle.std.proofs.Common.{◌≡◌, sym, arith, length, rules}
use borrow.Author.Tests.{eqb-false}
use Rattle.book.specs.Rules.{plain, refusal_of_add}
use Rattle.batch.proofs.Doing.{add_done}
use Rattle.batch.proofs.records.add.Goals as goal

pub returns : goal.returns
returns c =
    let some : ¬ (length c.args.out.now ≡ 0) = eqb-false _ 0 (sym c.if-is_empty.ensures) in
    let number : c.map_or.result ≡ refusal_of_add c.add-answer.result = search rules in
    add_done c.args.book.now _ c.args.number (plain c.args.term.now) c.add-answer.result c.map_or.result c.args.out.now _ _ (omega (arith, some)) c.add-answer.ensures number c.put_bare.ensures
