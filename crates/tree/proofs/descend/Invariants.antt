-- Each turn finds the child with the next cell, or that there is none
use Rattle.links.specs.Words.{shape}
use Rattle.tree.proofs.Walking.{Descending}
use Rattle.tree.proofs.descend.Given as goal

abbrev pub invariant-loop-depth : goal.invariant-loop-depth
invariant-loop-depth l = Descending (shape l.m) l.form l.link l.depth
