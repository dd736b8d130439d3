-- The slots that the chain passes by have another bucket, and those on it are compared; it goes down, so it ends.
use Rattle.names.proofs.Indexing.{Chain}
use Rattle.names.proofs.lookup.Lookup.find.Given as goal

abbrev pub invariant-loop-next : goal.invariant-loop-next
invariant-loop-next l = Chain l.self.table.now l.self.held l.name l.bucket l.next

abbrev pub decreases-loop-next : goal.decreases-loop-next
decreases-loop-next l = l.next
