-- The cell has its hook behind b, so the child that comes there has it, or no child has
use Rattle.links.specs.Limits.{at_in}
use Rattle.tree.proofs.Walking.{child_low, next_low, none_comes, other_comes, it_comes}
use Rattle.tree.proofs.child_with.Goals as goal
use Rattle.tree.proofs.child_with.Goals.{then-x-eq0-via-then-x-eq0, then-x-eq0-via-else-x-eq0+then-cell_of-c}

pub get-x-requires-clause-parent_le_last_link : goal.get-x-requires-clause-parent_le_last_link
get-x-requires-clause-parent_le_last_link c = (child_low c.args.m.now c.args.at.parent c.args.at.behind c.args.c 0 c.requires.ready c.requires.found).0

pub get-x-requires-clause-behind_le_last_link : goal.get-x-requires-clause-behind_le_last_link
get-x-requires-clause-behind_le_last_link c = (child_low c.args.m.now c.args.at.parent c.args.at.behind c.args.c 0 c.requires.ready c.requires.found).1

pub bounds-m-x : goal.bounds-m-x
bounds-m-x c =
    at_in c.requires.ready.size
    (next_low c.args.m.now c.args.at.parent c.args.at.behind c.args.c c.get-x.result c.requires.ready c.requires.found c.get-x.ensures)

pub returns-then-x-eq0 : goal.returns-then-x-eq0
returns-then-x-eq0 c =
    let r = c.requires in
    let x = c.get-x in
    elim c.then-x-eq0.branch [
      | then-x-eq0-via-then-x-eq0 w ↦ none_comes c.args.m.now c.args.at.parent c.args.at.behind c.args.c x.result r.ready r.found x.ensures w.if-x-eq0.true
      | then-x-eq0-via-else-x-eq0+then-cell_of-c w ↦
          other_comes c.args.m.now c.args.at.parent c.args.at.behind c.args.c x.result r.ready r.found x.ensures w.cell_of.result w.cell_of.ensures w.if-cell_of-c.true
    ]

pub returns : goal.returns
returns c =
    it_comes c.args.m.now c.args.at.parent c.args.at.behind c.args.c c.get-x.result c.requires.ready c.requires.found c.get-x.ensures
    c.cell_of.result c.if-x-eq0.false c.cell_of.ensures c.if-cell_of-c.false
