-- What `read` promises: P1, for any table and any bytes.
use Rattle.std.specs.Prelude.{◌≡◌, List, ◌++◌, ℕ, ◌+◌, ◌-◌, ◌*◌, length, replicate}
use Rattle.std.proofs.Common.{sym, ap₂, ◌∙◌}
use Rattle.names.specs.Table.{Holds, Passes, slots_of}
use Rattle.names.specs.Once.{passes, names_once, free_once}
use Rattle.text.specs.Text.{Answer, read_text}
pub use Rattle.text.specs.declared.TextRead.{TextRead}

-- An answer as the call gives it.
abbrev pub told : Answer → TextRead
told a = record { refusal = a.refusal; place = a.place; size = a.size; cells = a.cells }

abbrev pub refused_read : (refusal place : ℕ) → TextRead
refused_read refusal place = record { refusal = refusal; place = place; size = 0; cells = replicate 32 0 }

-- A table of so many slots that holds these names.
abbrev pub table_of : (slots : ℕ) → List (List ℕ) → List ℕ
table_of slots names = slots_of names ++ replicate (32 * (slots - length names)) 0

-- 1 for a table that doesn't pass, before all others, and the table as it was; else the answer of `read_text`, and every byte of the
-- table.
pub data Reads (before text : List ℕ) (r : TextRead) (after : List ℕ) : Type 0 where
  no_table : (Passes before → ⊥) → r ≡ refused_read 1 0 → after ≡ before → Reads before text r after
  has_read : {names : List (List ℕ)} {free : ℕ} → Holds before names free → r ≡ told (read_text names free text) → after ≡ table_of (length names + free) (read_text names free text).names
      → Reads before text r after

-- Two outcomes that it allows are equal.
pub reads_once : {before text : List ℕ} (r s : TextRead) (after other : List ℕ) → Reads before text r after → Reads before text s other → (r ≡ s) × (after ≡ other)
reads_once r s after other (no_table f e l) (no_table g h m) = (e ∙ sym h, l ∙ sym m)
reads_once r s after other (no_table f e l) (has_read h g m) = absurd (f (passes h))
reads_once r s after other (has_read h e l) (no_table f g m) = absurd (f (passes h))
reads_once {before} {text} r s after other (has_read {names} {free} h e l) (has_read {names = names'} {free = free'} i g m) =
    let same : names ≡ names' = names_once h i in
    let room : free ≡ free' = free_once h i in (
      e ∙ ap₂ (λ (x : List (List ℕ)) (y : ℕ). told (read_text x y text)) same room ∙ sym g,
      l ∙ ap₂ (λ (x : List (List ℕ)) (y : ℕ). table_of (length x + y) (read_text x y text).names) same room ∙ sym m,
    )
