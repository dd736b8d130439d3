-- The subterms still wanted and the cells still to come are, turn by turn, what `past` goes on with.
use Rattle.std.proofs.Common.{◌≡◌, ◌+◌, ◌*◌, ◌≤◌, drop}
use Rattle.term.specs.Cells.{blank_form}
use Rattle.term.specs.Machine.{past}
use Rattle.term.proofs.machine.past.Given as goal

abbrev pub invariant-loop-at : goal.invariant-loop-at
invariant-loop-at l = record {
  few : l.wanted ≤ 65536 + 7 * l.at;
  same : past l.wanted (drop l.at (blank_form l.question)) ≡ past l.fn.count (drop l.fn.place (blank_form l.question));
}
