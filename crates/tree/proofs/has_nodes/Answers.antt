-- Where the last word of the map is 0 its 64 nodes are free; else the set bits are counted
use Rattle.std.proofs.Common.{arith}
use Rattle.std.proofs.lemmas.Bool.{leb-true, leb-false}
use Rattle.tree.proofs.Growing.{last_free, held_is, held_low}
use Rattle.tree.proofs.has_nodes.Goals as goal

pub overflow_add-result : goal.overflow_add-result
overflow_add-result c = omega (arith, c.requires.1, held_low c.args.m.now c.requires.0 c.count.result c.count.ensures)

pub returns-then-m-eq0-clause-yes : goal.returns-then-m-eq0-clause-yes
returns-then-m-eq0-clause-yes c = λ e. omega (arith, c.requires.1, last_free c.args.m.now c.requires.0 c.if-m-eq0.true)

pub returns-else-m-eq0-clause-yes : goal.returns-else-m-eq0-clause-yes
returns-else-m-eq0-clause-yes c =
    let q = held_is c.args.m.now c.requires.0 c.count.result c.count.ensures in
    λ e. omega (arith, q, leb-true _ _ e)

pub returns-else-m-eq0-clause-no : goal.returns-else-m-eq0-clause-no
returns-else-m-eq0-clause-no c =
    let q = held_is c.args.m.now c.requires.0 c.count.result c.count.ensures in
    λ e. omega (arith, q, leb-false _ _ e)
