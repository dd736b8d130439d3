-- What the machine's code says by its numbers: a spot is a state of the machine, and none is a machine that failed.
use Rattle.std.specs.Prelude.{◌≡◌, List, Bool, ℕ, ◌+◌, ◌≤◌, ◌<◌, length, drop, Option, Some, None, IfSome}
use Rattle.term.specs.Cells.{blank_of, blank_form}
use Rattle.term.specs.Machine.{State, failed, at, past, step}
pub use Rattle.term.specs.declared.machine.Spot.{Spot}

abbrev pub spot : List ℕ → (skip place : ℕ) → State
spot question skip place = at skip (drop place (blank_form question))

abbrev pub state_of : List ℕ → Option Spot → State
state_of question (Some s) = spot question s.skip s.place
state_of question None = failed

-- A question of at most 32 cells, a place in it or at its end, and numbers that are far from wrapping.
pub record IsSpot (question : List ℕ) (skip place : ℕ) : Type 0 where
  pub short : length question ≤ 32
  pub inside : place ≤ length question
  pub few : skip ≤ 65536

pub record Within (question : List ℕ) (place : ℕ) : Type 0 where
  pub short : length question ≤ 32
  pub inside : place < length question

-- The place past so many subterms.
pub record Passed (question : List ℕ) (count place r : ℕ) : Type 0 where
  pub inside : r ≤ length question
  pub is : past count (drop place (blank_form question)) ≡ drop r (blank_form question)

-- The spot after one cell of a rule.
pub record Stepped (fq fr : Bool) (question : List ℕ) (c skip place : ℕ) (next : Option Spot) : Type 0 where
  pub inside : IfSome next (λ s. s.place ≤ length question)
  pub few : IfSome next (λ s. s.skip ≤ skip + 7)
  pub is : state_of question next ≡ step fq fr (blank_of c) (spot question skip place)
