-- At each turn the tokens so far have their cells.
use Rattle.std.proofs.Common.{◌≡◌, List, ℕ, ◌≤◌, length}
use Rattle.names.specs.Table.{Holds}
use Rattle.text.specs.Term.{Token}
use Rattle.text.specs.Leaves.{AllGoOn, Tokens, known_words}
use Rattle.text.proofs.Counting.{Going}
use Rattle.text.proofs.naming.number_all.Given as goal

abbrev pub invariant-loop-i : goal.invariant-loop-i
invariant-loop-i l = record {
  few : l.fresh.count ≤ l.i;
  cells_room : length l.cells ≡ 32;
  going : AllGoOn l.text l.notes
      → (names : List (List ℕ)) (free : ℕ) (tokens : List Token) → Holds l.lookup.table.now names free → length names ≡ l.lookup.held → length tokens ≡ l.notes.size
      → Tokens l.text l.notes.all tokens → Going l.text l.lookup.table.now l.lookup.held names tokens l.fresh.table l.cells (known_words l.variables) l.fresh.count l.i;
}
