-- Each way out is one case of the answer.
use Rattle.std.proofs.Common.{arith}
use Rattle.std.proofs.lemmas.Result.{err_from_is_err_and}
use Rattle.text.proofs.Answering.{table_length, notes_bounds, notes_words, reads_unnamed, reads_no_term, reads_no_slot, reads_term}
use Rattle.text.proofs.read_passing.Goals as goal

pub number_all-requires-clause-noted : goal.number_all-requires-clause-noted
number_all-requires-clause-noted c = notes_bounds _ _ c.gap-begin.ensures _ _ _ _ (rw c.none-notes.ensures at c.term-end.ensures.is)

pub number_all-requires-clause-words_end : goal.number_all-requires-clause-words_end
number_all-requires-clause-words_end c = notes_words _ _ c.gap-begin.ensures _ _ _ _ (rw c.none-notes.ensures at c.term-end.ensures.is)

pub returns-in_err-cells : goal.returns-in_err-cells
returns-in_err-cells c =
    let k = c.requires.counts in
    let p = err_from_is_err_and c.from_residual.result c.from_residual.ensures.1 in
    rw (p.1, p.2)
    (reads_unnamed _ _ c.gap-begin.ensures _ _ _ _ (rw c.none-notes.ensures at c.term-end.ensures.is) k.holds _ k.count _ _ _ c.number_all.ensures _ c.in_err-cells.was)

pub returns-in_err-place : goal.returns-in_err-place
returns-in_err-place c =
    let k = c.requires.counts in
    let p = err_from_is_err_and c.from_residual-in_err-place.result c.from_residual-in_err-place.ensures.1 in
    rw (p.1, p.2)
    (reads_no_term _ _ c.gap-begin.ensures _ _ _ _ (rw c.none-notes.ensures at c.term-end.ensures.is) k.holds _ k.count _ _ _ c.number_all.ensures _ c.in_ok-cells.was
    _ c.in_err-place.was)

pub returns-then-free-fresh : goal.returns-then-free-fresh
returns-then-free-fresh c =
    let k = c.requires.counts in
    reads_no_slot _ _ c.gap-begin.ensures _ _ _ _ (rw c.none-notes.ensures at c.term-end.ensures.is) k.holds _ k.count _ _ _ c.number_all.ensures _ c.in_ok-cells.was
    _ c.in_ok-place.was c.if-free-fresh.true

pub append-requires : goal.append-requires
append-requires c =
    let k = c.requires.counts in
    let n = c.number_all.new.fresh in
    (omega (arith, k.count, table_length k.holds), omega (arith, n.room, n.few))

pub returns : goal.returns
returns c =
    let k = c.requires.counts in
    reads_term _ _ c.gap-begin.ensures _ _ _ _ (rw c.none-notes.ensures at c.term-end.ensures.is) k.holds _ k.count _ _ _ c.number_all.ensures _ c.in_ok-cells.was
    _ c.in_ok-place.was c.if-free-fresh.false _ c.append.ensures
