-- The walk stands at a hook whose cell is not above c; it stops before the first cell that is not below
use Rattle.std.proofs.Common.{◌≡◌, ◌-◌}
use Rattle.shape.specs.Shape.{floor}
use Rattle.links.specs.Words.{shape, hook}
use Rattle.tree.proofs.Walking.{Along}
use Rattle.tree.proofs.find.Given as goal

abbrev pub invariant-loop-x : goal.invariant-loop-x
invariant-loop-x l = record {
  parent : l.at.parent ≡ l.fn.from.parent;
  along : Along l.m l.fn.from.parent l.at.behind l.c l.x;
}

abbrev pub decreases-loop-x : goal.decreases-loop-x
decreases-loop-x l = l.c - floor (shape l.m) (hook l.fn.from.parent l.at.behind)
