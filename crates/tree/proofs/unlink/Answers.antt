-- The hook that leads to the node is where its cell belongs; it then leads to the next sibling
use Rattle.std.proofs.Common.{◌≡◌, length, take, rules}
use Rattle.layout.specs.Layout.{map_words}
use Rattle.links.specs.Siblings.{before_all}
use Rattle.tree.proofs.Trimming.{leaf_ready, leaf_low, leaf_unlinked}
use Rattle.tree.proofs.unlink.Goals as goal

pub find-at-requires-clause-ready : goal.find-at-requires-clause-ready
find-at-requires-clause-ready c = leaf_ready c.args.m.now c.args.n c.parent_of.result c.requires c.parent_of.ensures

pub find-at-requires-clause-before : goal.find-at-requires-clause-before
find-at-requires-clause-before c =
    before_all c.args.m.now c.parent_of.result c.cell_of.result
    (leaf_ready c.args.m.now c.args.n c.parent_of.result c.requires c.parent_of.ensures)

pub put-requires-clause-parent_le_last_link : goal.put-requires-clause-parent_le_last_link
put-requires-clause-parent_le_last_link c =
    rw c.find-at.ensures.parent
    (leaf_low c.args.m.now c.args.n c.parent_of.result c.requires c.parent_of.ensures c.find-at.result.behind c.cell_of.result c.next_of.result
    c.cell_of.ensures c.next_of.ensures c.find-at.ensures.found).0

pub put-requires-clause-behind_le_last_link : goal.put-requires-clause-behind_le_last_link
put-requires-clause-behind_le_last_link c =
    (leaf_low c.args.m.now c.args.n c.parent_of.result c.requires c.parent_of.ensures c.find-at.result.behind c.cell_of.result c.next_of.result
    c.cell_of.ensures c.next_of.ensures c.find-at.ensures.found).1

pub returns : goal.returns
returns c =
    let e : length c.clear.new.map ≡ length (take map_words c.put.new.m) = search rules in
    let d : length c.put.new.m ≡ length c.args.m.now = search rules in
    leaf_unlinked c.args.m.now c.args.n c.parent_of.result c.requires c.parent_of.ensures c.find-at.result.behind c.cell_of.result c.next_of.result
    c.cell_of.ensures c.next_of.ensures c.find-at.ensures.found c.put.new.m c.clear.new.map d (rw c.find-at.ensures.parent at c.put.ensures) e c.clear.ensures
