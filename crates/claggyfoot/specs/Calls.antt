-- How the demands speak of a batch: one call, the commands that it comes to, and what the call shows of each.
use Rattle.std.specs.Prelude.{◌≡◌, ◌⊎◌, ◌↔◌, List, [], ◌∷◌, ◌++◌, ℕ, ◌-◌, ◌/◌, ◌≤◌, ◌<◌, length, get_or, take, drop}
use Rattle.layout.specs.Layout.{nodes_limit}
use Rattle.book.specs.Rules.{Rule, plain, nodes_of}
use Rattle.book.specs.Memory.{Passing, rules_in}
use Rattle.commands.specs.Records.{Record, bare, written}
use Rattle.commands.specs.Commands.{command_of, command_size}
use Rattle.batch.specs.Effects.{Effect, does, tells}
use Rattle.batch.specs.Promises.{Runs}
use Rattle.claggyfoot.specs.Stages.{Stage, onward, Reaches, MemoryAt}
use Rattle.claggyfoot.specs.NewNodes.{InUse, free_below}

-- Something is the case exactly when a condition holds; and then all this follows.
abbrev pub Exactly : (is condition follows : Type 0) → Type 0
Exactly is condition follows = (is ↔ condition) × (condition → follows)

-- One call of `cf_batch`: the memory lent and the same memory afterwards ('), the command cells, and the three numbers that it answers.
pub record Call : Type 0 where
  pub book : List ℕ
  pub book' : List ℕ
  pub cells : List ℕ
  pub output : List ℕ
  pub output' : List ℕ
  pub stop : ℕ
  pub used : ℕ
  pub written_cells : ℕ

-- It keeps the promise of a batch.
abbrev pub Kept : Call → Type 0
Kept call = Runs call.book call.book' call.cells call.output call.output' call.stop call.used call.written_cells

-- A call on a book that passes comes to the stage s; there the command cell is c, with these cells behind it.
pub record CameTo (call : Call) (s : Stage) (c : ℕ) (behind : List ℕ) : Type 0 where
  pub kept : Kept call
  pub passes : Passing call.book
  pub reaches : Reaches (rules_in call.book) call.cells (length call.output) s
  pub here : s.cells ≡ c ∷ behind

-- What the cells of a command say, what that does to the rules of the stage, and how many cells behind its command cell are its own.
abbrev pub effect_of : Stage → ℕ → List ℕ → Effect
effect_of s c behind = does s.rules behind (command_of c behind)

abbrev pub size_of : ℕ → List ℕ → ℕ
size_of c behind = command_size (command_of c behind)

-- The rule that an add adds.
abbrev pub rule_of : ℕ → List ℕ → Rule
rule_of c behind = plain (take (size_of c behind) behind)

-- The command is refused, or of kind 2 to 7.
abbrev pub Idle : Stage → ℕ → List ℕ → Type 0
Idle s c behind = ¬ ((effect_of s c behind).answer.refusal ≡ 0) ⊎ ((2 ≤ c / 4096) × (c / 4096 ≤ 7))

-- ---- what a caller sees

module _ (call : Call) (s : Stage) where
  -- The call answers this stop number, and the cells of this command are the first that are not used.
  abbrev pub StopsHere : ℕ → Type 0
  StopsHere r = (call.stop ≡ r) × (call.used ≡ s.used)

  -- A record of this command is written, and its first cell begins with this refusal.
  abbrev pub Answered : ℕ → Type 0
  Answered r = (length (written s.records) < call.written_cells) × (get_or call.output' (length (written s.records)) 0 / 4096 ≡ r)

  -- The call ends at this command, with these records in all: the three numbers, every output cell, the rules and the memory.
  pub record Ended (stop : ℕ) (records : List Record) : Type 0 where
    pub stop_is : call.stop ≡ stop
    pub used_is : call.used ≡ s.used
    pub written_is : call.written_cells ≡ length (written records)
    pub output_is : call.output' ≡ written records ++ drop call.written_cells call.output
    pub rules_are : rules_in call.book' ≡ s.rules
    pub memory_is : MemoryAt call.book call.book' s call.book'

  -- The batch goes on: this is the command's record, the command is counted as used, and the next stage is t.
  pub record GoneOn (answer : Record) (t : Stage) : Type 0 where
    pub after : List Record
    pub written_is : call.written_cells ≡ length (written (s.records ++ (answer ∷ after)))
    pub output_is : call.output' ≡ written (s.records ++ (answer ∷ after)) ++ drop call.written_cells call.output
    pub counted : t.used ≤ call.used
    pub reaches : Reaches (rules_in call.book) call.cells (length call.output) t

  -- The command is refused and the batch goes on: a record without further cells, the same rules, and the same words as before it.
  pub record RefusedOn (r c : ℕ) (behind : List ℕ) : Type 0 where
    pub goes_on : GoneOn (bare r) (onward s (size_of c behind) (tells (bare r) s.rules) behind)
    pub same_words : (m : List ℕ) → MemoryAt call.book call.book' s m
        → MemoryAt call.book call.book' (onward s (size_of c behind) (tells (bare r) s.rules) behind) m

  -- The command stops the batch with its record, one cell.
  abbrev pub StoppedBy : ℕ → Type 0
  StoppedBy r = Ended r (s.records ++ (bare r ∷ []))

-- Between the stages s and t a rule comes. The nodes in use at t are those in use at s, and so many of the free ones of lowest number as the node
-- count grows by: a free node comes into use exactly when fewer free ones than that stand below it.
pub record NodesTaken (call : Call) (s t : Stage) : Type 0 where
  pub before : List ℕ
  pub after : List ℕ
  pub at_stage : MemoryAt call.book call.book' s before
  pub at_next : MemoryAt call.book call.book' t after
  pub exactly : (n : ℕ) → n < nodes_limit → InUse after n ↔ (InUse before n ⊎ (free_below before n < nodes_of t.rules - nodes_of s.rules))
