-- What adding and removing a rule promise.
use Rattle.std.specs.Prelude.{◌≡◌, Result, Ok, Err, List, ◌++◌, true, false, ℕ, ◌-◌, ◌<◌, length, replicate}
use Rattle.layout.specs.Layout.{nodes_limit, rules_limit}
use Rattle.shape.specs.Shape.{Shape}
use Rattle.book.specs.declared.NotAdded.{NotAdded}
use Rattle.book.specs.declared.NotHeld.{NotHeld}
use Rattle.book.specs.Rules.{Rule, nothing, rule_count, without_rule, judged, after, removal}
use Rattle.book.specs.Memory.{View, view, taken, Passing, rules_in}

-- The nodes that come into use are the free ones of lowest number, and none goes out of use.
pub record TakesLowest (m m' : Shape) : Type 0 where
  pub kept : (n : ℕ) → n < nodes_limit → m.used n ≡ true → m'.used n ≡ true
  pub lowest : (n : ℕ) → n < nodes_limit → m.used n ≡ false → m'.used n ≡ true → (j : ℕ) → j < n → m'.used j ≡ true

-- No node comes into use.
pub record TakesNone (m m' : Shape) : Type 0 where
  pub were : (n : ℕ) → n < nodes_limit → m'.used n ≡ true → m.used n ≡ true

-- An add answers as the rules judge it. Where the rule is taken the book passes with it; where it is refused nothing has changed.
pub record Adds (ws ws' : List ℕ) (k : ℕ) (it : Rule) (r : Result (Unit {0}) NotAdded) : Type 0 where
  pub answer : r ≡ judged (rules_in ws) k it
  pub passes : Passing ws'
  pub rules : rules_in ws' ≡ after r (rules_in ws) k it
  pub nodes : TakesLowest (view ws).tree (view ws').tree
  pub same : ¬ (r ≡ Ok tt) → ws' ≡ ws

-- A number that is not held, and a place that is free.
pub record FreePlace (ws : List ℕ) (k r : ℕ) : Type 0 where
  pub new : rules_in ws k ≡ nothing
  pub low : r < rules_limit
  pub free : taken (view ws) r ≡ false
  pub few : rule_count (rules_in ws) < rules_limit

-- The place for a rule of a new number, or why an add of any rule under this number is refused.
abbrev pub Chooses : List ℕ → ℕ → Result ℕ NotAdded → Type 0
Chooses ws k (Ok r) = FreePlace ws k r
Chooses ws k (Err why) = (it : Rule) → judged (rules_in ws) k it ≡ Err why

-- A remove answers 0 or 7, and the book passes without the rule, with no new node; where there is none nothing has changed.
pub record Removes (ws ws' : List ℕ) (k : ℕ) (r : Result (Unit {0}) NotHeld) : Type 0 where
  pub answer : r ≡ removal (rules_in ws k)
  pub passes : Passing ws'
  pub rules : rules_in ws' ≡ without_rule (rules_in ws) k
  pub nodes : TakesNone (view ws).tree (view ws').tree
  pub same : r ≡ Err (record {}) → ws' ≡ ws

-- The record of a number with its rule comes to the place r, and nothing else changes.
pub record Stores (v v' : View) (k r : ℕ) (it : Rule) : Type 0 where
  pub tree : v'.tree ≡ v.tree
  pub to_place : v'.place k ≡ r
  pub places : (j : ℕ) → ¬ (j ≡ k) → v'.place j ≡ v.place j
  pub size : v'.size r ≡ length it.term
  pub sizes : (j : ℕ) → ¬ (j ≡ r) → v'.size j ≡ v.size j
  pub cells : v'.cells r ≡ it.term ++ replicate (32 - length it.term) 0
  pub cellss : (j : ℕ) → ¬ (j ≡ r) → v'.cells j ≡ v.cells j
