-- Each turn links the lowest free node in at the sorted hook of the next cell, which is known: the one given, and then the first below the new node
use Rattle.tree.proofs.Growing.{Full, Chain}
use Rattle.tree.proofs.grow.Given as goal

abbrev pub invariant-loop-cell : goal.invariant-loop-cell
invariant-loop-cell l = Chain l.fn.m l.m l.fn.from.parent l.at.parent l.at.behind l.form l.cell-index × Full l.m l.full
