-- Why a batch stops, told beside the number: the number and the command at which it stopped leave one answer.
use Rattle.std.specs.Prelude.{◌≡◌, List, ℕ, ◌≤◌, drop, Option, Some, None, Result, Ok, Err}
use Rattle.std.proofs.Common.{refl, sym, ap, ◌∙◌, arith}
use Rattle.commands.specs.declared.reader.Refusal.{Refusal}
use Rattle.commands.specs.declared.reader.RefusedCommand.{RefusedCommand}
use Rattle.commands.specs.Commands.{refusal_number, command_in}
use Rattle.commands.specs.Laws.{refusal_low, low_refusal}
use Rattle.batch.specs.declared.Stop.{Stop}
use Rattle.batch.specs.declared.Stop.TheVariants.{NotABook, Refused, NoRoom}
use Rattle.batch.specs.Run.{stop_of}

-- A refusal that is told is that of the command behind the cells used.
abbrev pub Because : List ℕ → ℕ → Option Stop → Type 0
Because cells used stop = (why : Refusal) → stop ≡ Some (Refused why) → (refused : RefusedCommand) × (command_in (drop used cells) ≡ Some (Err refused)) × (refused.why ≡ why)

pub no_refusal : (cells : List ℕ) (used : ℕ) → Because cells used None
no_refusal cells used why e = absurd cc

pub no_book : (cells : List ℕ) (used : ℕ) → Because cells used (Some NotABook)
no_book cells used why e = absurd cc

pub no_room : (cells : List ℕ) (used : ℕ) → Because cells used (Some NoRoom)
no_room cells used why e = absurd cc

pub refused_so : (cells : List ℕ) (used : ℕ) (refused : RefusedCommand) → command_in (drop used cells) ≡ Some (Err refused) → Because cells used (Some (Refused refused.why))
refused_so cells used refused c why e = (refused, c, let d : Some (Refused refused.why) ≡ Some (Refused why) = e in cc)

-- One outcome.
pub why_once : (cells : List ℕ) (used : ℕ) (stop stop' : Option Stop) → stop_of stop ≡ stop_of stop' → Because cells used stop → Because cells used stop' → stop ≡ stop'
why_once cells used None None e a b = refl
why_once cells used None (Some NotABook) e a b = absurd (omega (arith, e))
why_once cells used None (Some (Refused r)) e a b = absurd (omega (arith, e, refusal_low r))
why_once cells used None (Some NoRoom) e a b = absurd (omega (arith, e))
why_once cells used (Some NotABook) None e a b = absurd (omega (arith, e))
why_once cells used (Some NotABook) (Some NotABook) e a b = refl
why_once cells used (Some NotABook) (Some (Refused r)) e a b = absurd (omega (arith, e, refusal_low r))
why_once cells used (Some NotABook) (Some NoRoom) e a b = absurd (omega (arith, e))
why_once cells used (Some (Refused r)) None e a b = absurd (omega (arith, e, refusal_low r))
why_once cells used (Some (Refused r)) (Some NotABook) e a b = absurd (omega (arith, e, refusal_low r))
why_once cells used (Some (Refused r)) (Some (Refused r')) e a b = let x = a r refl in let y = b r' refl in let z = sym x.1 ∙ y.1 in let p = x.2 in let q = y.2 in cc
why_once cells used (Some (Refused r)) (Some NoRoom) e a b = absurd (omega (arith, e, low_refusal r))
why_once cells used (Some NoRoom) None e a b = absurd (omega (arith, e))
why_once cells used (Some NoRoom) (Some NotABook) e a b = absurd (omega (arith, e))
why_once cells used (Some NoRoom) (Some (Refused r)) e a b = absurd (omega (arith, e, low_refusal r))
why_once cells used (Some NoRoom) (Some NoRoom) e a b = refl
