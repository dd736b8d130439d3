-- Each link on the way is one of the tree's.
use Rattle.std.proofs.Common.{◌≤◌}
use Rattle.layout.specs.Layout.{last_link}
use Rattle.links.proofs.signs.highest.Given as goal

abbrev pub invariant-loop : goal.invariant-loop
invariant-loop l = l.l ≤ last_link
