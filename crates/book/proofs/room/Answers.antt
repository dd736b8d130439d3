-- The set bits of the two maps are the nodes and the rules of the set.
use Rattle.book.specs.Looking.{counted}
use Rattle.book.proofs.room.Goals as goal

pub returns : goal.returns
returns c = counted c.args.m.now _ _ c.requires c.count-nodes.ensures c.count-rules.ensures
