-- A turn takes one cell, as the definition does; what is left to read from there on stays what was asked for.
use Rattle.std.proofs.Common.{◌≡◌, ◌+◌, ◌*◌, ◌-◌, ◌≤◌, drop}
use Rattle.term.specs.Reading.{read_from, read_term}
use Rattle.term.proofs.reading.first_term.Given as goal

abbrev pub invariant-loop-place : goal.invariant-loop-place
invariant-loop-place l = record {
  few : l.wanted ≤ 1 + 7 * l.place-counter;
  same : read_from (32 - l.place-counter) l.wanted l.known l.place-counter (drop l.place-counter l.cells) ≡ read_term l.cells;
}
