-- What the batch's functions promise.
use Rattle.std.specs.Prelude.{◌≡◌, List, [], ◌∷◌, ◌++◌, ℕ, ◌≤◌, ◌<◌, length, drop, Option}
use Rattle.shape.specs.Shape.{Shape}
use Rattle.bits.specs.Numbers.{has}
use Rattle.term.specs.Questions.{Mode}
use Rattle.questions.specs.Asking.{numbers, numbers_in_order, answers}
use Rattle.book.specs.Rules.{Rules}
use Rattle.book.specs.Memory.{view, Passing, rules_in}
use Rattle.change.specs.Promises.{TakesLowest, TakesNone}
use Rattle.commands.specs.Records.{written}
use Rattle.commands.specs.Writing.{Writes}
use Rattle.batch.specs.Effects.{Change, more, less, changed_number, held_before, changed, Effect}
use Rattle.batch.specs.Run.{Outcome, run}

-- One change of the book, from a memory to the next: that rule comes or goes and no other does, and the nodes that come into use are the free ones
-- of lowest number, or none.
abbrev pub TakesNodes : Change → Shape → Shape → Type 0
TakesNodes (more k r) m m' = TakesLowest m m'
TakesNodes (less k r) m m' = TakesNone m m'

pub record Changes (c : Change) (ws ws' : List ℕ) : Type 0 where
  pub was : rules_in ws (changed_number c) ≡ held_before c
  pub passes : Passing ws'
  pub rules_are : rules_in ws' ≡ changed c (rules_in ws)
  pub nodes : TakesNodes c (view ws).tree (view ws').tree

-- Memories along the changes of the rules, one after another; without any it is the same, word for word.
pub data Along : List Change → List ℕ → List ℕ → Type 0 where
  none : {ws : List ℕ} → Along [] ws ws
  then : {ws ws₁ ws' : List ℕ} {c : Change} {cs : List Change} → Changes c ws ws₁ → Along cs ws₁ ws' → Along (c ∷ cs) ws ws'

-- The memory afterwards passes and holds the rules, and came about along the changes.
pub record Becomes (ws ws' : List ℕ) (rules : Rules) (changes : List Change) : Type 0 where
  pub passes : Passing ws'
  pub rules_are : rules_in ws' ≡ rules
  pub along : Along changes ws ws'

-- A command is done, and its record written in so many cells; or there is no room for it, and nothing has changed.
pub record Does (e : Effect) (ws ws' out out' : List ℕ) (n : Option ℕ) : Type 0 where
  pub writes : Writes e.answer out out' n
  pub fits : length e.answer.cells < length out → Becomes ws ws' e.rules e.changes
  pub short : length out ≤ length e.answer.cells → ws' ≡ ws

-- The rules that answer a question are marked, and no other number of a rule.
pub record Marked (rules : Rules) (mode : Mode) (question marks : List ℕ) : Type 0 where
  pub in_order : numbers_in_order rules (has marks) ≡ answers mode question rules
  pub many : length (numbers (has marks) 4096) ≡ length (answers mode question rules)
  pub few : length (numbers (has marks) 4096) ≤ 512

-- An outcome has come about: stop, used and written are its own; its records stand from the front of the output, and what stood behind them stays; the book holds its rules.
pub record Came (o : Outcome) (ws ws' out out' : List ℕ) (stop used n : ℕ) : Type 0 where
  pub stop_is : stop ≡ o.stop
  pub used_is : used ≡ o.used
  pub written_is : n ≡ length (written o.records)
  pub output : out' ≡ written o.records ++ drop n out
  pub book : Becomes ws ws' o.rules o.changes

-- A batch on a book that passes.
abbrev pub Ran : (ws ws' cells out out' : List ℕ) → (stop used n : ℕ) → Type 0
Ran ws ws' cells out out' stop used n = Came (run (rules_in ws) cells (length out)) ws ws' out out' stop used n

-- Memory that does not pass: 1, 0, 0, and nothing has changed.
pub record TurnedAway (ws ws' out out' : List ℕ) (stop used n : ℕ) : Type 0 where
  pub stop_is : stop ≡ 1
  pub used_is : used ≡ 0
  pub written_is : n ≡ 0
  pub output : out' ≡ out
  pub book : ws' ≡ ws

-- The promise of the batch call, for any memory, any cells and any room.
pub data Runs (ws ws' cells out out' : List ℕ) (stop used n : ℕ) : Type 0 where
  ran : Passing ws → Ran ws ws' cells out out' stop used n → Runs ws ws' cells out out' stop used n
  turned_away : ¬ (Passing ws) → TurnedAway ws ws' out out' stop used n → Runs ws ws' cells out out' stop used n

-- What is left of it for memory that passes.
pub passing : {ws ws' cells out out' : List ℕ} {stop used n : ℕ} → Runs ws ws' cells out out' stop used n → Passing ws → Ran ws ws' cells out out' stop used n
passing (ran p r) q = r
passing (turned_away n t) q = absurd (n q)
