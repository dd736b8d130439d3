-- The word stored differs from the old one in the hook's link alone
use Rattle.tree.proofs.Stores.{puts_first, puts_after}
use Rattle.tree.proofs.Hook.put.Goals as goal

pub returns-then-self-eq0 : goal.returns-then-self-eq0
returns-then-self-eq0 c =
    let s = c.args.self in
    puts_first c.args.m.now c.requires.m_len s.parent s.behind c.if-self-eq0.true c.requires.parent_le_last_link c.with_first.result c.args.x c.with_first.ensures

pub returns-else-self-eq0 : goal.returns-else-self-eq0
returns-else-self-eq0 c =
    let s = c.args.self in
    puts_after c.args.m.now c.requires.m_len s.parent s.behind c.if-self-eq0.false c.requires.behind_le_last_link c.with_next.result c.args.x c.with_next.ensures
