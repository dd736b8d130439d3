-- What the functions below the calls promise.
use Rattle.std.specs.Prelude.{◌≡◌, List, ◌++◌, ℕ, ◌+◌, ◌*◌, ◌≤◌, ◌<◌, length, get_or, drop, Option, Some, None}
use Rattle.names.specs.Name.{IsName}
use Rattle.names.specs.Table.{Named, Apart, slot_of, slots_of, Passes}
use Rattle.names.specs.Index.{Indexed}

abbrev pub AllZero : List ℕ → Type 0
AllZero bytes = (i : ℕ) → get_or bytes i 0 ≡ 0

-- The slot holds a name.
pub record Used (slot : List ℕ) : Type 0 where
  pub name : List ℕ
  pub named : IsName name
  pub written : slot ≡ slot_of name

-- Slot k says this name: its length, and then its bytes.
pub record Says (table : List ℕ) (k : ℕ) (name : List ℕ) : Type 0 where
  pub size : get_or table (32 * k) 0 ≡ length name
  pub bytes : (i : ℕ) → i < length name → get_or table (32 * k + 1 + i) 0 ≡ get_or name i 0

-- One of so many slots that says this name, if one does.
abbrev pub Finds : (table : List ℕ) → (held : ℕ) → (name : List ℕ) → Option ℕ → Type 0
Finds table held name (Some slot) = (slot < held) × Says table slot name
Finds table held name None = (k : ℕ) → k < held → Says table k name → ⊥

-- The first slots of a table are used, and no two say the same name.
pub record UsedTo (table : List ℕ) (held : ℕ) : Type 0 where
  pub names : List (List ℕ)
  pub count : length names ≡ held
  pub written : table ≡ slots_of names ++ drop (32 * held) table
  pub named : Named names
  pub apart : Apart names

-- The used slots from the first on, with their index: they end where a length is 0, or something is wrong among them.
pub record Ends (table index : List ℕ) (slots held : ℕ) : Type 0 where
  pub begins : UsedTo table held
  pub indexed : Indexed table held index
  pub within : held ≤ slots
  pub ends : get_or table (32 * held) 0 ≡ 0

abbrev pub Runs : (table index : List ℕ) → ℕ → Option ℕ → Type 0
Runs table index slots (Some held) = Ends table index slots held
Runs table index slots None = Passes table → ⊥
