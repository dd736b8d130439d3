-- What is marked so far and the siblings still to come are all of them, and each turn marks one.
use Rattle.std.proofs.Common.{arith}
use Rattle.questions.proofs.Threads.{inside}
use Rattle.questions.proofs.Marking.{begins, marks_next, number_low, fewer, marks_all}
use Rattle.questions.proofs.trying.mark_rules.Goals as goal

pub loop-x-init : goal.loop-x-init
loop-x-init c = begins c.requires.rules_beside c.requires.number_set

pub overflow_add-w : goal.overflow_add-w
overflow_add-w c = let h = inside c.loop-x.invariant.threaded c.loop-x-test.true in record { fits = omega arith }

pub offset_bounds-m-x : goal.offset_bounds-m-x
offset_bounds-m-x c = let h = inside c.loop-x.invariant.threaded c.loop-x-test.true in record { fits = omega arith }

pub bounds-m-x : goal.bounds-m-x
bounds-m-x c = let h = inside c.loop-x.invariant.threaded c.loop-x-test.true in omega arith

pub put-requires-clause-n_bound : goal.put-requires-clause-n_bound
put-requires-clause-n_bound c = number_low (λ i. (c.type_inv.m i).fits) c.loop-x.invariant c.loop-x-test.true c.cell_of.ensures

pub loop-x-smaller : goal.loop-x-smaller
loop-x-smaller c = fewer (λ i. (c.type_inv.m i).fits) c.loop-x.invariant c.loop-x-test.true c.cell_of.ensures c.next_of-x.ensures

pub loop-x-preserved : goal.loop-x-preserved
loop-x-preserved c = marks_next (λ i. (c.type_inv.m i).fits) c.loop-x.invariant c.loop-x-test.true c.cell_of.ensures c.put.ensures c.next_of-x.ensures

pub returns : goal.returns
returns c = marks_all c.loop-x.invariant c.loop-x-test.false
