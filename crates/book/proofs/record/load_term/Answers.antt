-- Each cell passed is the field of the same index, and those behind are zero on both sides
use Rattle.std.proofs.Common.{◌+◌, arith}
use Rattle.book.specs.Filling.{loading_none, loading_more, room, loaded}
use Rattle.book.proofs.record.load_term.Goals as goal

pub loop-i-init : goal.loop-i-init
loop-i-init c = loading_none c.args.words.now

pub returns : goal.returns
returns c =
    let l = c.loop-i in
    loaded c.args.words.now l.cells l.i c.args.size c.requires.words_len c.requires.zeros c.loop-i-test.false l.invariant

pub returns-2 : goal.returns-2
returns-2 c =
    let l = c.loop-i in
    let more = loading_more c.args.words.now l.cells l.i _ _ _ _ l.invariant (room c.args.words.now l.cells l.i c.args.size l.invariant c.loop-i-test.true c.requires.size_bound)
    c.field.ensures c.field-in-loop-i.ensures c.field-in-loop-i-2.ensures c.field-in-loop-i-3.ensures in
    loaded c.args.words.now _ (l.i + 4) c.args.size c.requires.words_len c.requires.zeros (omega arith) more
