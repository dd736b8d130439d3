-- Before all children, at the first, or at one further on that is below the cell
use Rattle.std.proofs.Common.{refl, inl}
use Rattle.links.proofs.Beginning.{from_known, first_link}
use Rattle.links.specs.Limits.{at_in, live_low}
use Rattle.links.proofs.signs.before.Goals as goal

pub bounds-m-p : goal.bounds-m-p
bounds-m-p c = at_in c.requires.ready.size (live_low c.args.m.now c.requires.ready.size c.args.p c.requires.ready.live)

pub bounds-m-x : goal.bounds-m-x
bounds-m-x c = at_in c.requires.ready.size (first_link c.args.m.now c.args.p c.first_of-x.result c.requires.ready c.first_of-x.ensures)

pub returns-then-next_of-eq0 : goal.returns-then-next_of-eq0
returns-then-next_of-eq0 c =
    from_known c.args.m.now c.args.p c.args.c c.first_of-x.result c.cell_of.result c.requires.ready c.if-x-eq0.false
    c.first_of-x.ensures c.cell_of.ensures c.if-c-cell_of.false _ (inl refl)

pub returns : goal.returns
returns c =
    from_known c.args.m.now c.args.p c.args.c c.first_of-x.result c.cell_of.result c.requires.ready c.if-x-eq0.false
    c.first_of-x.ensures c.cell_of.ensures c.if-c-cell_of.false c.known.result c.known.ensures
