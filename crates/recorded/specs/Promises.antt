-- What is asked of a rule's record, and what the functions promise.
use Rattle.std.specs.Prelude.{◌≡◌, List, Bool, true, false, ℕ, ◌+◌, ◌*◌, ◌%◌, ◌≤◌, ◌<◌, length, get_or, take, drop, Ok}
use Rattle.layout.specs.Layout.{rule_numbers, term_words, record_words, terms_at}
use Rattle.bits.specs.Packed.{fields}
use Rattle.term.specs.Reading.{read_term}
use Rattle.book.specs.Filling.{Zeros}
use Rattle.book.specs.Memory.{view, number, blank_number}
use Rattle.recorded.specs.Way.{wants, Kept, Low}

-- The words of a record are those of a whole term of this length, and zeros, with the blanks of the way
pub record TermOf (words way : List ℕ) (depth : ℕ) : Type 0 where
  pub whole : read_term (fields words) ≡ Ok depth
  pub clean : Zeros (fields words) depth
  pub same : (j : ℕ) → j < depth → blank_number (get_or (fields words) j 0) ≡ blank_number (get_or way (j + 1) 0 % 65536)

-- The words of a record are those of the way, cell by cell, and zeros: then it is the most general term of the way's form
pub record Plain (words way : List ℕ) (depth : ℕ) : Type 0 where
  pub short : depth ≤ 15
  pub same : (j : ℕ) → j < depth → get_or (fields words) j 0 ≡ get_or way (j + 1) 0 % 65536
  pub clean : Zeros (fields words) depth

-- So it is where the way is that of a row
abbrev pub PlainOf : (words way : List ℕ) (depth : ℕ) → Type 0
PlainOf words way depth = (ks row : List ℕ) → Kept way ks row → Low row → length row ≡ depth → Plain words way depth

-- The record is decided where the way is that of a row behind which nothing is wanted
pub record TermDecided (words way : List ℕ) (depth : ℕ) (r : Bool) : Type 0 where
  pub yes : r ≡ true → (ks row : List ℕ) → Kept way ks row → Low row → length row ≡ depth → wants row ≡ 0 → TermOf words way depth
  pub no : r ≡ false → ¬ (TermOf words way depth)

-- The same for the rule at the place k: its number, the place of its number, and its record
pub record RuleAt (ws way : List ℕ) (k depth : ℕ) : Type 0 where
  pub low : number (view ws) k < rule_numbers
  pub found : (view ws).place (number (view ws) k) ≡ k
  pub size : (view ws).size k ≡ depth
  pub term : TermOf (take term_words (drop (terms_at + record_words * k) ws)) way depth

pub record RuleDecided (ws way : List ℕ) (k depth : ℕ) (r : Bool) : Type 0 where
  pub yes : r ≡ true → (ks row : List ℕ) → Kept way ks row → Low row → length row ≡ depth → wants row ≡ 0 → RuleAt ws way k depth
  pub no : r ≡ false → ¬ (RuleAt ws way k depth)
