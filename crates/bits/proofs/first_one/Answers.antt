-- What the shift leaves has the bits from `from` on at its top
use Rattle.std.proofs.Common.{arith}
use Rattle.bits.specs.Laws.{length_parts}
use Rattle.bits.proofs.Searching.{none_left, left_low, one_left}
use Rattle.bits.proofs.first_one.Goals as goal

pub returns-then-x-eq0 : goal.returns-then-x-eq0
returns-then-x-eq0 c = rw length_parts (none_left c.args.w c.args.from c.requires c.if-x-eq0.true)

pub returns : goal.returns
returns c =
    let low = left_low c.args.w c.args.from c.requires c.if-x-eq0.false in
    (omega (arith, length_parts 1 64 c.args.w), one_left c.args.w c.args.from c.requires c.if-x-eq0.false)
