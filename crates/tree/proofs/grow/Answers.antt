-- Each turn links the lowest free node in at the sorted hook of the next cell, which is known: behind b, and then below the new node
use Rattle.std.proofs.Common.{◌≡◌, arith, length, rules}
use Rattle.tree.proofs.Growing.{full_none, full_skipped, full_on, chain_start, chain_low, chain_some, chain_room, chain_on, chain_end}
use Rattle.tree.proofs.grow.Goals as goal

pub loop-cell-init : goal.loop-cell-init
loop-cell-init c = (chain_start c.args.m.now c.args.from.parent c.args.from.behind c.args.form.now c.requires, full_none c.args.m.now)

pub lowest_free_from-requires-clause-skipped : goal.lowest_free_from-requires-clause-skipped
lowest_free_from-requires-clause-skipped c = full_skipped c.loop-cell.m c.loop-cell.full c.loop-cell.invariant.1

pub unwrap-n-requires : goal.unwrap-n-requires
unwrap-n-requires c =
    let l = c.loop-cell in
    chain_some c.args.m.now l.m c.args.from.parent l.at.parent l.at.behind c.args.form.now l.cell-index l.invariant.0 c.loop-cell-test.true
    c.lowest_free_from.result c.lowest_free_from.ensures

pub link-requires : goal.link-requires
link-requires c =
    let l = c.loop-cell in
    let n = c.unwrap-n in
    let first = rw n.ensures at c.lowest_free_from.ensures in
    chain_room c.args.m.now l.m c.args.from.parent l.at.parent l.at.behind c.args.form.now l.cell-index l.invariant.0 c.loop-cell-test.true n.result first.1
    c.from.result c.from.ensures (omega (arith, c.from.ensures, (c.type_inv.form l.cell-index).fits))

pub loop-cell-preserved : goal.loop-cell-preserved
loop-cell-preserved c =
    let l = c.loop-cell in
    let n = c.unwrap-n in
    let first = rw n.ensures at c.lowest_free_from.ensures in
    let same : length c.link.new.m ≡ length l.m = search rules in
    let low = chain_low c.args.m.now l.m c.args.from.parent l.at.parent l.at.behind c.args.form.now l.cell-index l.invariant.0 c.loop-cell-test.true n.result first.1 in (
      chain_on c.args.m.now l.m c.args.from.parent l.at.parent l.at.behind c.args.form.now l.cell-index l.invariant.0 c.loop-cell-test.true
          n.result first.1 c.from.result c.from.ensures c.link.new.m same c.link.ensures,
      full_on l.m c.link.new.m l.invariant.0.growing.size n.result first.1 low c.link.ensures,
    )

pub returns : goal.returns
returns c =
    let l = c.loop-cell in
    chain_end c.args.m.now l.m c.args.from.parent l.at.parent l.at.behind c.args.form.now l.cell-index l.invariant.0 c.loop-cell-test.false
