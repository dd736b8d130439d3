-- The mask leaves one bit of the word
use Rattle.bits.proofs.Stores.{masked_bit}
use Rattle.bits.proofs.is_marked.Goals as goal

pub returns : goal.returns
returns c = masked_bit c.args.map.now c.args.n c.bit_of.result c.bit_of.ensures
