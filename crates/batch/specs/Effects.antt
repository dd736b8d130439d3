-- What a command does: Reference 6, 7 and 9.
use Rattle.std.specs.Prelude.{List, [], ◌∷◌, ℕ, take, Result, Ok, Err}
use Rattle.term.specs.Questions.{Mode}
use Rattle.book.specs.Rules.{Rule, plain, Held, nothing, rule, Rules, with_rule, without_rule, rule_count, nodes_of, refusal_of_add, judged, after, removal, refusal_of_remove}
use Rattle.book.specs.declared.NotAdded.{NotAdded}
use Rattle.questions.specs.Asking.{answers}
use Rattle.commands.specs.Records.{Record, bare, good}
use Rattle.commands.specs.declared.reader.Command.{Command}
use Rattle.commands.specs.declared.reader.RefusedCommand.{RefusedCommand}
use Rattle.commands.specs.Commands.{refusal_number}
use Rattle.commands.specs.declared.kinds.Act.{Act}
use Rattle.commands.specs.declared.kinds.Act.TheVariants.{Add, Remove, Ask, Show, Room}
use Rattle.commands.specs.Kinds.{mode_of}

-- How the set of rules changes: by one rule more, or one less, under its number.
pub data Change : Type 0 where
  more : (number : ℕ) (r : Rule) → Change
  less : (number : ℕ) (r : Rule) → Change

abbrev pub changed_number : Change → ℕ
changed_number (more k r) = k
changed_number (less k r) = k

-- What stands under that number before the change, and the rules after it.
abbrev pub held_before : Change → Held
held_before (more k r) = nothing
held_before (less k r) = rule r

abbrev pub changed : Change → Rules → Rules
changed (more k r) rules = with_rule rules k r
changed (less k r) rules = without_rule rules k

-- What a command does: its record, the rules after it, and the changes, none or one.
pub record Effect : Type 0 where
  pub answer : Record
  pub rules : Rules
  pub changes : List Change

-- It only tells something.
abbrev pub tells : Record → Rules → Effect
tells answer rules = record { answer = answer; rules = rules; changes = [] }

abbrev pub change_of : Result (Unit {0}) NotAdded → ℕ → Rule → List Change
change_of (Ok made) k r = more k r ∷ []
change_of (Err why) k r = []

abbrev pub adds : Rules → ℕ → Rule → Effect
adds rules k r = record {
  answer = bare (refusal_of_add (judged rules k r));
  rules = after (judged rules k r) rules k r;
  changes = change_of (judged rules k r) k r;
}

abbrev pub change_at : ℕ → Held → List Change
change_at k nothing = []
change_at k (rule r) = less k r ∷ []

abbrev pub removes : Rules → ℕ → Effect
removes rules k = record { answer = bare (refusal_of_remove (removal (rules k))); rules = without_rule rules k; changes = change_at k (rules k) }

-- The rule numbers that answer, in order.
abbrev pub asks : Rules → Mode → List ℕ → Effect
asks rules mode question = tells (good (answers mode question rules)) rules

-- The rule's cells, or 7.
abbrev pub shown : Held → Record
shown nothing = bare 7
shown (rule r) = good r.term

abbrev pub shows : Rules → ℕ → Effect
shows rules k = tells (shown (rules k)) rules

-- Rules held, node count.
abbrev pub counts : Rules → Effect
counts rules = tells (good (rule_count rules ∷ nodes_of rules ∷ [])) rules

-- What each act does to a set of rules, under a number and with a term.
abbrev pub acts : Act → Rules → ℕ → List ℕ → Effect
acts Add rules k term = adds rules k (plain term)
acts Remove rules k term = removes rules k
acts (Ask fillsQ fills_r) rules k term = asks rules (mode_of fillsQ fills_r) term
acts Show rules k term = shows rules k
acts Room rules k term = counts rules

-- What a command as it was read does, with the cells behind its command cell: a refused one only tells its refusal.
unfoldable pub does : Rules → List ℕ → Result Command RefusedCommand → Effect
does rules behind (Ok c) = acts c.act rules c.number (take c.size behind)
does rules behind (Err refused) = tells (bare (refusal_number refused.why)) rules
