-- What is left of the word behind the number has the next one first, or the words behind it have.
use Rattle.std.proofs.Common.{refl}
use Rattle.bits.proofs.Numbering.{word_goes, word_more}
use Rattle.bits.proofs.numbers.after.Goals as goal

pub returns-then-left-eq0 : goal.returns-then-left-eq0
returns-then-left-eq0 c =
    let r = c.requires in
    word_goes c.args.map.now r.number_set c.args.at c.args.rest r.at_bound.0 r.at_bound.1 r.rest_value c.if-left-eq0.true _ c.first.ensures

pub returns : goal.returns
returns c =
    let r = c.requires in
    word_more c.args.map.now r.number_set c.args.at c.args.rest r.at_bound.0 r.at_bound.1 r.rest_value c.if-left-eq0.false _ refl
