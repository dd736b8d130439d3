-- The store sets one bit of the word and keeps its others
use Rattle.bits.proofs.Stores.{mark_bit}
use Rattle.bits.proofs.mark.Goals as goal

pub returns : goal.returns
returns c = mark_bit c.args.map.now c.args.n c.requires c.bit_of.result c.bit_of.ensures
