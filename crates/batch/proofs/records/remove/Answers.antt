-- Room is asked for first; then the book's answer is the record's refusal.
use Rattle.std.proofs.Common.{◌≡◌, sym, arith, length, rules}
use borrow.Author.Tests.{eqb-false}
use Rattle.book.specs.Rules.{refusal_of_remove}
use Rattle.batch.proofs.Doing.{remove_done}
use Rattle.batch.proofs.records.remove.Goals as goal

pub returns : goal.returns
returns c =
    let some : ¬ (length c.args.out.now ≡ 0) = eqb-false _ 0 (sym c.if-is_empty.ensures) in
    let number : c.map_or.result ≡ refusal_of_remove c.remove-answer.result = search rules in
    remove_done c.args.book.now _ c.args.number c.remove-answer.result c.remove-answer.ensures c.map_or.result c.args.out.now _ _ (omega (arith, some)) number c.put_bare.ensures
