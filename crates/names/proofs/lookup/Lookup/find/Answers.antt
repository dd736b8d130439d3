-- One slot is compared, and its link leads further down.
use Rattle.names.proofs.Indexing.{chain_on}
use Rattle.names.proofs.lookup.Lookup.find.Goals as goal

pub loop-next-preserved : goal.loop-next-preserved
loop-next-preserved c =
    chain_on c.args.self.now.table.now c.args.self.now.index.now c.args.self.now.held c.args.self.now.indexed c.args.name.now c.requires.1 c.args.bucket
    c.requires.0
    c.loop-next.next c.from-next-in-loop-next.result c.loop-next.invariant c.loop-next-test.true
    (c.says.ensures.no c.if-says.false) c.from-next-in-loop-next.ensures
