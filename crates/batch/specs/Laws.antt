-- Laws of what a batch is.
use Rattle.std.specs.Prelude.{◌≡◌, List, [], ◌∷◌, ◌++◌, Bool, ℕ, zero, suc, ◌-◌, ◌≤◌, ◌<◌, length, take, drop, Result, Ok, Err}
use Rattle.std.proofs.Math.Path.{refl, ap}
use Rattle.std.proofs.Common.{◌∙◌, arith, lt-ltb, le-ltb}
use Rattle.deciding.specs.Deciding.{pick}
use Rattle.book.specs.Rules.{Rules}
use Rattle.commands.specs.declared.reader.Command.{Command}
use Rattle.commands.specs.declared.reader.RefusedCommand.{RefusedCommand}
use Rattle.commands.specs.Commands.{refusal_number, command_of, command_size}
use Rattle.commands.specs.Records.{bare}
use Rattle.batch.specs.Effects.{Change, Effect, tells, acts, does}
use Rattle.batch.specs.Run.{Outcome, ends, ends_with, is_going_on, one_fits, one_of, run_from, run}
use Rattle.batch.specs.Promises.{Along, none, then}

-- ---- a command that stops the batch, and one that goes on

module _ (rules : Rules) (behind : List ℕ) (read : Result Command RefusedCommand) where
  pub does_stop : (refused : RefusedCommand) → read ≡ Err refused → does rules behind read ≡ tells (bare (refusal_number refused.why)) rules
  unfolding does
  does_stop refused e = ap (does rules behind) e

  pub does_act : (c : Command) → read ≡ Ok c → does rules behind read ≡ acts c.act rules c.number (take c.size behind)
  unfolding does
  does_act c e = ap (does rules behind) e

-- what holds of each act and of each refusal holds of what a command does
pub any_effect : (rules : Rules) (behind : List ℕ) (read : Result Command RefusedCommand) (P : Effect → Type 0)
    → ((c : Command) → P (acts c.act rules c.number (take c.size behind))) → ((refused : RefusedCommand) → P (tells (bare (refusal_number refused.why)) rules))
    → P (does rules behind read)
unfolding does
any_effect rules behind (Ok c) P a t = a c
any_effect rules behind (Err refused) P a t = t refused

-- ---- a batch, command by command

-- the cells of a term are passed over
pub skipped : (k : ℕ) (rules : Rules) (cells : List ℕ) (room : ℕ) → run_from k rules cells room ≡ run rules (drop k cells) room
unfolding run_from
skipped zero rules [] room = refl
skipped zero rules (c ∷ cells) room = refl
skipped (suc k) rules [] room = refl
skipped (suc k) rules (c ∷ cells) room = skipped k rules cells room

pub run_none : (rules : Rules) (room : ℕ) → run rules [] room ≡ ends 0 rules
unfolding run_from
run_none rules room = refl

module _ (rules : Rules) (c : ℕ) (behind : List ℕ) (room : ℕ) where
  -- the first command, what it does, and the batch behind it
  abbrev pub command : Result Command RefusedCommand
  command = command_of c behind

  abbrev pub effect : Effect
  effect = does rules behind command

  abbrev pub rest : Outcome
  rest = run effect.rules (drop (command_size command) behind) (room - suc (length effect.answer.cells))

  abbrev later : Outcome
  later = run_from (command_size command) effect.rules behind (room - suc (length effect.answer.cells))

  one : run rules (c ∷ behind) room ≡ one_of rules room command effect later
  unfolding run_from
  one = refl

  pub run_10 : room ≤ length effect.answer.cells → run rules (c ∷ behind) room ≡ ends 10 rules
  run_10 h = one ∙ ap (λ (b : Bool). pick b (one_fits command effect later) (ends 10 rules)) (le-ltb (length effect.answer.cells) room h)

  fits : length effect.answer.cells < room → run rules (c ∷ behind) room ≡ one_fits command effect later
  fits h = one ∙ ap (λ (b : Bool). pick b (one_fits command effect later) (ends 10 rules)) (lt-ltb (length effect.answer.cells) room h)

  pub run_stops : (refused : RefusedCommand) → length effect.answer.cells < room → command ≡ Err refused → run rules (c ∷ behind) room ≡ ends_with (refusal_number refused.why) effect
  run_stops refused h e = fits h ∙ ap (λ (r : Result Command RefusedCommand). one_fits r effect later) e

  pub run_goes_on : (first : Command) → length effect.answer.cells < room → command ≡ Ok first → run rules (c ∷ behind) room ≡ is_going_on (suc first.size) effect rest
  run_goes_on first h e =
      fits h ∙ ap (λ (r : Result Command RefusedCommand). one_fits r effect later) e
      ∙ ap (is_going_on (suc first.size) effect) (skipped (command_size command) effect.rules behind (room - suc (length effect.answer.cells)))

-- ---- memories along changes

pub along_on : {cs ds : List Change} {ws ws₁ ws' : List ℕ} → Along cs ws ws₁ → Along ds ws₁ ws' → Along (cs ++ ds) ws ws'
along_on none b = b
along_on (then c a) b = then c (along_on a b)

-- without a change it is the same, word for word
pub unchanged : {cs : List Change} {ws ws' : List ℕ} → Along cs ws ws' → cs ≡ [] → ws' ≡ ws
unchanged none e = refl
unchanged (then c a) e = absurd (let z : ◌≡◌ {A = ℕ} 0 1 = cc in omega arith)
