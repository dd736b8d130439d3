-- Each field passed is the term's cell of the same index, or zero.
use Rattle.std.proofs.Common.{◌-◌, ◌*◌, arith, length, get_or}
use Rattle.std.proofs.Math.ListN.{length-set}
use Rattle.bits.specs.Packed.{fields}
use Rattle.book.specs.Filling.{filled_four, filled_all, fields_long, padded, padded_long}
use Rattle.book.proofs.record.store.Goals as goal

pub loop-i-preserved : goal.loop-i-preserved
loop-i-preserved c =
    let l = c.loop-i in (
      simp length-set l.invariant.0,
      filled_four c.args.term.now l.words l.i c.four.result (omega arith) c.four.ensures l.invariant.1,
    )

pub returns : goal.returns
returns c =
    let l = c.loop-i in
    let t = c.args.term.now in
    filled_all (fields l.words) _ (4 * l.i) (λ k. get_or t k 0) (omega (arith, fields_long l.words, padded_long t c.requires.1))
    (omega (arith, fields_long l.words)) (λ k h. padded t (32 - length t) k) l.invariant.1
