-- What a table is: Reference 10.1. A table is its used slots, a name in each, and then free slots; a name's number is its slot.
use Rattle.std.specs.Prelude.{◌≡◌, List, [], ◌∷◌, ◌++◌, ℕ, suc, ◌+◌, ◌-◌, ◌*◌, ◌≤◌, ◌<◌, length, get_or, take, drop, replicate, Bool, true, false, eqb}
use Rattle.deciding.specs.Deciding.{pick}
use Rattle.names.specs.Name.{IsName}

-- A used slot: the length, the name, zeros to the 32nd byte.
unfoldable pub slot_of : List ℕ → List ℕ
slot_of name = length name ∷ (name ++ replicate (31 - length name) 0)

-- The used slots, one after another.
unfoldable pub slots_of : List (List ℕ) → List ℕ
slots_of [] = []
slots_of (name ∷ names) = slot_of name ++ slots_of names

-- `get_or names k []` is the name with the number k. Each is one that 11 doesn't refuse; no two are equal; none is this one.
abbrev pub Named : List (List ℕ) → Type 0
Named names = (k : ℕ) → k < length names → IsName (get_or names k [])

abbrev pub Apart : List (List ℕ) → Type 0
Apart names = (j k : ℕ) → j < k → k < length names → get_or names j [] ≡ get_or names k [] → ⊥

abbrev pub Missing : List (List ℕ) → List ℕ → Type 0
Missing names name = (k : ℕ) → k < length names → get_or names k [] ≡ name → ⊥

-- The slot of a name among these, the first that agrees byte by byte; their number where none does.
unfoldable pub same : List ℕ → List ℕ → Bool
same [] [] = true
same [] (b ∷ t) = false
same (a ∷ s) [] = false
same (a ∷ s) (b ∷ t) = pick (eqb a b) (same s t) false

unfoldable pub slot_in : List (List ℕ) → List ℕ → ℕ
slot_in [] name = 0
slot_in (held ∷ names) name = pick (same held name) 0 (suc (slot_in names name))

-- The table holds these names, in the order of their numbers, and has so many free slots after them; 1 to 1,024 slots in all.
pub record Holds (table : List ℕ) (names : List (List ℕ)) (free : ℕ) : Type 0 where
  pub written : table ≡ slots_of names ++ replicate (32 * free) 0
  pub some : 1 ≤ length names + free
  pub most : length names + free ≤ 1024
  pub named : Named names
  pub apart : Apart names

-- The table passes; otherwise refusal 1.
pub record Passes (table : List ℕ) : Type 0 where
  pub names : List (List ℕ)
  pub free : ℕ
  pub holds : Holds table names free

-- The table with a name written over slot k; every other byte stays.
unfoldable pub put : List ℕ → ℕ → List ℕ → List ℕ
put table k name = take (32 * k) table ++ (slot_of name ++ drop (32 * k + 32) table)
