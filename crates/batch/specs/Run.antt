-- A batch: its commands in turn. Reference 8.
use Rattle.std.specs.Prelude.{List, [], ◌∷◌, ◌++◌, ℕ, zero, suc, ◌+◌, ◌-◌, ltb, length, Option, Some, None, Result, Ok, Err}
use Rattle.deciding.specs.Deciding.{pick}
use Rattle.book.specs.Rules.{Rules}
use Rattle.commands.specs.Records.{Record}
use Rattle.commands.specs.declared.reader.Command.{Command}
use Rattle.commands.specs.declared.reader.RefusedCommand.{RefusedCommand}
use Rattle.commands.specs.Commands.{refusal_number, command_of, command_size}
use Rattle.batch.specs.Effects.{Change, Effect, does}
use Rattle.batch.specs.declared.Stop.{Stop}
use Rattle.batch.specs.declared.Stop.TheVariants.{NotABook, Refused, NoRoom}

-- The stop number: 1 on memory that is no book, 2 to 5 as the command is refused, 10 where a record does not fit; 0 where all cells
-- are used.
abbrev pub stop_number : Stop → ℕ
stop_number NotABook = 1
stop_number (Refused why) = refusal_number why
stop_number NoRoom = 10

abbrev pub stop_of : Option Stop → ℕ
stop_of None = 0
stop_of (Some why) = stop_number why

-- What comes of a batch on a book that passes: the stop number, cells used, the records written, the rules afterwards, and the changes of the rules in turn.
pub record Outcome : Type 0 where
  pub stop : ℕ
  pub used : ℕ
  pub records : List Record
  pub rules : Rules
  pub changes : List Change

-- It ends here, without a record: all cells are used (0), or a record does not fit (10).
abbrev pub ends : ℕ → Rules → Outcome
ends stop rules = record { stop = stop; used = 0; records = []; rules = rules; changes = [] }

-- It ends here, with a record: the command is not counted as used.
abbrev pub ends_with : ℕ → Effect → Outcome
ends_with stop e = record { stop = stop; used = 0; records = e.answer ∷ []; rules = e.rules; changes = e.changes }

-- A command of so many cells was done, and then the others.
abbrev pub is_going_on : ℕ → Effect → Outcome → Outcome
is_going_on size e rest = record {
  stop = rest.stop;
  used = size + rest.used;
  records = e.answer ∷ rest.records;
  rules = rest.rules;
  changes =
      e.changes ++ rest.changes;
}

-- One command as it was read, with its effect, where there is room for its record: a refused one stops the batch.
abbrev pub one_fits : Result Command RefusedCommand → Effect → Outcome → Outcome
one_fits (Ok c) e rest = is_going_on (suc c.size) e rest
one_fits (Err refused) e rest = ends_with (refusal_number refused.why) e

-- The same where there is room for so many cells. 10 replaces any record that does not fit.
abbrev pub one_of : Rules → ℕ → Result Command RefusedCommand → Effect → Outcome → Outcome
one_of rules room read e rest = pick (ltb (length e.answer.cells) room) (one_fits read e rest) (ends 10 rules)

-- The commands in turn; so many cells, those of a term that was read, are passed over first.
unfoldable pub run_from : ℕ → Rules → List ℕ → ℕ → Outcome
run_from skip rules [] room = ends 0 rules
run_from (suc skip) rules (c ∷ behind) room = run_from skip rules behind room
run_from zero rules (c ∷ behind) room =
    one_of rules room (command_of c behind) (does rules behind (command_of c behind))
    (run_from (command_size (command_of c behind)) (does rules behind (command_of c behind)).rules behind
    (room - suc (length (does rules behind (command_of c behind)).answer.cells)))

-- A batch on a set of rules, with its cells and the room for output.
abbrev pub run : Rules → List ℕ → ℕ → Outcome
run rules cells room = run_from 0 rules cells room
