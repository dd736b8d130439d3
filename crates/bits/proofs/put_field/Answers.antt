-- The mask clears the field, and the shift puts the new one there
use Rattle.std.proofs.Common.{◌<◌, ◌/◌, ◌^◌, get_or, rules}
use Rattle.bits.proofs.Stores.{put_field_sets}
use Rattle.bits.proofs.put_field.Goals as goal

pub returns : goal.returns
returns c =
    let low : get_or c.args.words.now (c.args.i / 4) 0 < 2 ^ 64 = search rules in
    rw c.from.ensures (put_field_sets c.args.words.now c.args.i c.args.x c.requires low c.ranges.x.fits)
