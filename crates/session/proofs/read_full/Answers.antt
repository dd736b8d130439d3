-- A read puts its bytes behind those that stand.
use Rattle.std.proofs.Common.{rules}
use Rattle.session.proofs.Reading.{read_on}
use Rattle.session.proofs.read_full.Goals as goal

pub loop-done-preserved : goal.loop-done-preserved
loop-done-preserved g c =
    let kept = c.loop-done.invariant in
    let read = c.in-Ok.ensures in
    (search rules, search rules, read_on _ _ _ _ _ _ _ _ kept.1 read.bound.0 kept.2 read.bytes.0)
