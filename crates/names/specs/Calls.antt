-- What the calls on a table promise: Reference 10, and refusals 1, 11, 12 and 13.
use Rattle.std.specs.Prelude.{◌≡◌, List, [], ◌++◌, ℕ, ◌+◌, ◌-◌, ◌*◌, ◌≤◌, ◌<◌, length, get_or, take, drop, replicate, ltb, Option, Result, Ok, Err, unwrap_or}
use Rattle.std.specs.Result.{result_err}
use Rattle.deciding.specs.Deciding.{pick}
use Rattle.names.specs.Name.{passes_as_name}
use Rattle.names.specs.Table.{Holds, Passes, slot_in, slots_of, put}
use Rattle.names.specs.Refusals.{number_of_refusal}
pub use Rattle.names.specs.Refusals.{Refusal, NoTable, NoName, NoSlot, NoNumber}
pub use Rattle.names.specs.declared.checking.Counted.{Counted}
pub use Rattle.names.specs.declared.Entry.{Entry}
pub use Rattle.names.specs.declared.Entry.TheVariants.{Held, New}
pub use Rattle.names.specs.declared.Part.{Part}

-- The promise of `check`: the count of the names and of the free slots of a table that passes.
pub record Counts (table : List ℕ) (held free : ℕ) : Type 0 where
  pub names : List (List ℕ)
  pub holds : Holds table names free
  pub count : length names ≡ held

abbrev pub Checks : List ℕ → Result Counted Refusal → Type 0
Checks table (Ok counted) = Counts table counted.held counted.free
Checks table (Err refusal) = (Passes table → ⊥) × (refusal ≡ NoTable)

-- The refusal and the number for each answer of `enter`.
abbrev pub refusal_of_entry : Result Entry Refusal → ℕ
refusal_of_entry (Ok entry) = 0
refusal_of_entry (Err refusal) = number_of_refusal refusal

abbrev pub number_of_entry : Result Entry Refusal → ℕ
number_of_entry (Ok (Held k)) = k
number_of_entry (Ok (New k)) = k
number_of_entry (Err refusal) = 0

-- The answer of `enter` for a table that holds these names and has so many free slots, in the order 11, held, 12.
abbrev pub entry_in : List (List ℕ) → (free : ℕ) → List ℕ → Result Entry Refusal
entry_in names free name =
    pick (passes_as_name name)
    (pick (ltb (slot_in names name) (length names)) (Ok (Held (slot_in names name)))
    (pick (ltb 0 free) (Ok (New (length names))) (Err NoSlot)))
    (Err NoName)

-- The table after each answer: a new name is written over the first free slot, and nothing else changes.
abbrev pub table_after : List ℕ → List ℕ → Result Entry Refusal → List ℕ
table_after table name (Ok (Held k)) = table
table_after table name (Ok (New k)) = put table k name
table_after table name (Err refusal) = table

-- The promise of `enter`: 1 for a table that doesn't pass, else that answer; and every byte of the table after it.
pub data Enters (before name : List ℕ) (answer : Result Entry Refusal) (after : List ℕ) : Type 0 where
  entered : {names : List (List ℕ)} {free : ℕ} → Holds before names free → answer ≡ entry_in names free name → after ≡ table_after before name answer → Enters before name answer after
  no_table : (Passes before → ⊥) → answer ≡ Err NoTable → after ≡ before → Enters before name answer after

-- The promises of `look_up`, `add` and `append`, on a table that holds names. None where no slot has the name.
abbrev pub LooksUp : (table : List ℕ) → (held : ℕ) → (name : List ℕ) → (found : Option ℕ) → Type 0
LooksUp table held name found =
    (names : List (List ℕ)) (free : ℕ) → Holds table names free → length names ≡ held → unwrap_or found held ≡ slot_in names name

abbrev pub Adds : (before : List ℕ) → (held : ℕ) → (name after : List ℕ) → Type 0
Adds before held name after = (names : List (List ℕ)) (free : ℕ) → Holds before names free → length names ≡ held → 0 < free → after ≡ put before held name

pub record Appended (before others : List ℕ) (held count : ℕ) (names new : List (List ℕ)) (free room : ℕ) : Type 0 where
  pub holds : Holds before names free
  pub held_is : length names ≡ held
  pub new_holds : Holds others new room
  pub count_is : length new ≡ count
  pub fits : count ≤ free

abbrev pub Appends : (before : List ℕ) → (held : ℕ) → (others : List ℕ) → (count : ℕ) → (after : List ℕ) → Type 0
Appends before held others count after =
    (names new : List (List ℕ)) (free room : ℕ) → Appended before others held count names new free room → after ≡ slots_of (names ++ new) ++ replicate (32 * (free - count)) 0

-- The refusal, and where in the table the name stands, for each answer of `part_of`; refused, 0 bytes from byte 0.
abbrev pub refusal_of_part : Result Part Refusal → ℕ
refusal_of_part (Ok part) = 0
refusal_of_part (Err refusal) = number_of_refusal refusal

abbrev pub start_of_part : Result Part Refusal → ℕ
start_of_part (Ok part) = part.start
start_of_part (Err refusal) = 0

abbrev pub size_of_part : Result Part Refusal → ℕ
size_of_part (Ok part) = part.size
size_of_part (Err refusal) = 0

-- Exactly when `part_of` gives each answer: this is its promise.
pub data PartOf (table : List ℕ) (number : ℕ) : Result Part Refusal → Type 0 where
  bad_table : (Passes table → ⊥) → PartOf table number (Err NoTable)
  no_number : {names : List (List ℕ)} {free : ℕ} → Holds table names free → length names ≤ number → PartOf table number (Err NoNumber)
  at : {names : List (List ℕ)} {free : ℕ} {part : Part} → Holds table names free → number < length names → part.start ≡ 32 * number + 1
      → part.size ≡ length (get_or names number []) → PartOf table number (Ok part)

-- The promise of `name_of`: the part of the table where the name stands.
pub record NameIs (table : List ℕ) (number : ℕ) (name : List ℕ) : Type 0 where
  pub part : Result Part Refusal
  pub stands : PartOf table number part
  pub name_is : name ≡ take (size_of_part part) (drop (start_of_part part) table)

-- The promise of `name_refusal`.
pub record NameRefused (table : List ℕ) (number : ℕ) (refusal : Option Refusal) : Type 0 where
  pub part : Result Part Refusal
  pub stands : PartOf table number part
  pub refusal_is : refusal ≡ result_err part
