-- What a command says: Reference 6, 7 and 9.
use Rattle.std.specs.Prelude.{◌≡◌, List, [], ◌∷◌, Bool, true, not, ℕ, ◌/◌, ◌%◌, ◌≤◌, ◌<◌, eqb, length, Option, Some, None, Result, Ok, Err}
use Rattle.deciding.specs.Deciding.{pick, both}
use Rattle.term.specs.Reading.{read_term, refusal_of}
use Rattle.term.specs.declared.reading.Refused.{Refused}
use Rattle.commands.specs.Kinds.{Act, Kind, kind_at, act_of, about_term, with_act}
pub use Rattle.commands.specs.declared.reader.Command.{Command}
pub use Rattle.commands.specs.declared.reader.Refusal.{Refusal}
pub use Rattle.commands.specs.declared.reader.RefusedCommand.{RefusedCommand}
pub use Rattle.commands.specs.declared.reader.Refusal.TheVariants.{UnknownKind, NumberNotZero, Term}

-- The refusal number: 2 where the kind is unknown, or the number has to be 0 and is not; else that of the term's fault.
abbrev pub refusal_number : Refusal → ℕ
refusal_number UnknownKind = 2
refusal_number NumberNotZero = 2
refusal_number (Term fault) = refusal_of fault

-- A command of some row: so many of the cells behind its command cell are its term.
abbrev pub command_with : Kind → (number size : ℕ) → Command
command_with k number size = record { act = k.act; number = number; size = size }

-- A refused command of some row, or of none: whatever is wrong, the act is the row's and the number the cell's.
abbrev pub refused_with : Option Kind → (number : ℕ) → Refusal → RefusedCommand
refused_with k number why = record { act = act_of k; number = number; why = why }

-- A command as it was read, or why it is refused, with what its cell says.
abbrev pub told : Option Kind → (number : ℕ) → Result Command Refusal → Result Command RefusedCommand
told k number (Ok c) = Ok c
told k number (Err why) = Err (refused_with k number why)

-- With a term behind it, it has the term's length, or is refused as the term is.
abbrev pub with_term : Kind → ℕ → Result ℕ Refused → Result Command RefusedCommand
with_term k number (Ok size) = Ok (command_with k number size)
with_term k number (Err refused) = Err (refused_with (Some k) number (Term refused.fault))

abbrev pub is_wrong_number : Kind → ℕ → Bool
is_wrong_number k number = both k.zero (not (eqb number 0))

-- A command is read by its row alone: 2 comes first, and then the term, where one follows.
unfoldable pub read_by : Option Kind → ℕ → List ℕ → Result Command RefusedCommand
read_by None number behind = Err (refused_with None number UnknownKind)
read_by (Some k) number behind = pick (is_wrong_number k number) (Err (refused_with (Some k) number NumberNotZero)) (pick k.term (with_term k number (read_term behind)) (Ok (command_with k number 0)))

abbrev pub command_from : (kind number : ℕ) → List ℕ → Result Command RefusedCommand
command_from kind number behind = read_by (kind_at kind) number behind

-- The command that a cell begins: 4 bits kind, 12 bits number, and what stands behind them.
abbrev pub command_of : (c : ℕ) → List ℕ → Result Command RefusedCommand
command_of c behind = command_from (c / 4096) (c % 4096) behind

-- The first command of some cells; where there is no cell, none.
abbrev pub command_in : List ℕ → Option (Result Command RefusedCommand)
command_in [] = None
command_in (c ∷ behind) = Some (command_of c behind)

-- What was read as two numbers: the refusal with which the command stops the batch, with 0 it goes on; and how many of the cells
-- behind its command cell are its term.
abbrev pub command_refusal : Result Command RefusedCommand → ℕ
command_refusal (Ok c) = 0
command_refusal (Err refused) = refusal_number refused.why

abbrev pub command_size : Result Command RefusedCommand → ℕ
command_size (Ok c) = c.size
command_size (Err refused) = 0

-- What its cell says, whatever is wrong.
abbrev pub command_act : Result Command RefusedCommand → Option Act
command_act (Ok c) = Some c.act
command_act (Err refused) = refused.act

abbrev pub command_number : Result Command RefusedCommand → ℕ
command_number (Ok c) = c.number
command_number (Err refused) = refused.number

-- What is known of a command that was read, with the cells behind its command cell.
pub record Read (behind : List ℕ) (c : Command) : Type 0 where
  pub number_low : c.number < 4096
  pub inside : c.size ≤ length behind
  pub whole : about_term c.act ≡ true → read_term behind ≡ Ok c.size

-- The same of any command, refused or not.
pub record Told (behind : List ℕ) (read : Result Command RefusedCommand) : Type 0 where
  pub number_low : command_number read < 4096
  pub stop_low : command_refusal read ≤ 5
  pub inside : command_size read ≤ length behind
  pub whole : command_refusal read ≡ 0 → with_act about_term (command_act read) ≡ true → read_term behind ≡ Ok (command_size read)
