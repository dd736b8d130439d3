-- Each turn finds the child with the next cell, or that there is none
use Rattle.links.specs.Words.{shape}
use Rattle.tree.proofs.Walking.{descend_start, descend_ready, descend_on}
use Rattle.tree.proofs.descend.Goals as goal

pub loop-depth-init : goal.loop-depth-init
loop-depth-init c = descend_start (shape c.args.m.now) c.args.form.now

pub find-hook-requires-clause-ready : goal.find-hook-requires-clause-ready
find-hook-requires-clause-ready c =
    descend_ready c.args.m.now c.args.form.now c.requires.sound c.loop-depth.link c.loop-depth.depth c.loop-depth.invariant

pub loop-depth-preserved : goal.loop-depth-preserved
loop-depth-preserved c =
    let l = c.loop-depth in
    descend_on c.args.m.now c.args.form.now c.requires.sound l.link l.depth l.invariant c.loop-depth-test.true c.from-c.result c.from-c.ensures
    c.in-Some.child (rw c.find-hook.ensures.parent at c.in-Some.ensures)
