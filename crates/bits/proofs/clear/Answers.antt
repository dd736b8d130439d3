-- The store clears one bit of the word and keeps its others
use Rattle.std.proofs.Common.{◌<◌, ◌/◌, ◌^◌, get_or, rules}
use Rattle.bits.proofs.Stores.{clear_bit}
use Rattle.bits.proofs.clear.Goals as goal

pub returns : goal.returns
returns c =
    let low : get_or c.args.map.now (c.args.n / 64) 0 < 2 ^ 64 = search rules in
    clear_bit c.args.map.now c.args.n c.requires c.bit_of.result c.bit_of.ensures low
