-- Node by node: a step that is refused is one that no memory which passes refuses, and each step is one level lower.
use Rattle.passing.proofs.Downing.{down_start, down_lost, down_end, down_on}
use Rattle.passing.proofs.down.Goals as goal

pub loop-k-init : goal.loop-k-init
loop-k-init c = down_start c.requires.sizes c.requires.at_hook

pub returns-in_err-w : goal.returns-in_err-w
returns-in_err-w c = rw c.from_residual.ensures (down_lost c.loop-k.invariant c.loop-k-test.true c.in_err-w.ensures)

pub loop-k-preserved : goal.loop-k-preserved
loop-k-preserved c =
    down_on c.loop-k.invariant c.in_ok-w.ensures c.loop-k-test.true c.enter.auto.left c.push-top.auto.stack
    c.cell_of-c.ensures c.push-top.ensures c.number.ensures.0 c.first_of.ensures

pub returns : goal.returns
returns c = down_end c.loop-k.invariant c.loop-k-test.false
