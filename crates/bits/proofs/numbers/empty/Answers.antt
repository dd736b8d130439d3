-- The head is what was stored.
use Rattle.bits.proofs.Numbering.{emptied}
use Rattle.bits.proofs.numbers.empty.Goals as goal

pub returns : goal.returns
returns c = emptied c.args.map.now c.requires
