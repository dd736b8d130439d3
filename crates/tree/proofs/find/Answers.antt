-- The walk stands at a hook whose cell is not above c; it stops before the first cell that is not below
use Rattle.std.proofs.Common.{arith, refl}
use Rattle.links.specs.Limits.{live_low, hook_low, at_in}
use Rattle.tree.proofs.Walking.{walk_start, walk_on, walk_less, walk_found, walk_end}
use Rattle.tree.proofs.find.Goals as goal

pub get-x-requires-clause-parent_le_last_link : goal.get-x-requires-clause-parent_le_last_link
get-x-requires-clause-parent_le_last_link c = live_low c.args.m.now c.requires.ready.size c.args.from.parent c.requires.ready.live

pub get-x-requires-clause-behind_le_last_link : goal.get-x-requires-clause-behind_le_last_link
get-x-requires-clause-behind_le_last_link c =
    hook_low c.args.m.now c.requires.ready.size c.args.from.parent c.args.from.behind c.requires.before.valid

pub loop-x-init : goal.loop-x-init
loop-x-init c =
    let f = c.args.from in
    record { parent = refl; along = walk_start c.args.m.now f.parent f.behind c.args.c c.get-x.result c.requires.ready c.requires.before c.get-x.ensures }

pub bounds-m-x : goal.bounds-m-x
bounds-m-x c = at_in c.requires.ready.size c.loop-x.invariant.along.low

pub returns-then-cell_of-c-clause-found : goal.returns-then-cell_of-c-clause-found
returns-then-cell_of-c-clause-found c =
    let r = c.requires.ready in let l = c.loop-x in
    walk_found c.args.m.now r.size r.tree c.args.from.parent l.at.behind c.args.c l.x c.cell_of.result (omega arith) l.invariant.along c.cell_of.ensures
    c.if-cell_of-c.true

pub loop-x-smaller : goal.loop-x-smaller
loop-x-smaller c =
    let r = c.requires.ready in let l = c.loop-x in
    walk_less c.args.m.now r.size r.tree c.args.from.parent l.at.behind c.args.c l.x c.cell_of.result (omega arith) l.invariant.along c.cell_of.ensures
    c.if-cell_of-c.false

pub loop-x-preserved : goal.loop-x-preserved
loop-x-preserved c =
    let r = c.requires.ready in let l = c.loop-x in record {
      parent = l.invariant.parent;
      along = walk_on c.args.m.now r.size r.tree c.args.from.parent l.at.behind c.args.c l.x c.cell_of.result c.next_of-x.result (omega arith)
          l.invariant.along c.cell_of.ensures c.if-cell_of-c.false c.next_of-x.ensures;
    }

pub returns-clause-found : goal.returns-clause-found
returns-clause-found c =
    let r = c.requires.ready in let l = c.loop-x in
    walk_end c.args.m.now r.size r.tree c.args.from.parent l.at.behind c.args.c l.x c.loop-x-test.false l.invariant.along
