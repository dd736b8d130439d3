-- What the book's functions promise.
use Rattle.std.specs.Prelude.{◌≡◌, Option, Some, None, Result, Ok, Err, List, ◌++◌, ℕ, ◌-◌, length, replicate}
use Rattle.std.specs.Bool.{then_some}
use Rattle.layout.specs.Layout.{book_words}
use Rattle.book.specs.declared.Shown.{Shown}
use Rattle.book.specs.declared.WrongLength.{WrongLength}
use Rattle.term.specs.Reading.{read_term}
use Rattle.book.specs.Rules.{Held, nothing, rule, rule_count, nodes_of}
use Rattle.book.specs.Memory.{View, held_at, rules_in}

-- A term, and nothing after it.
abbrev pub IsTerm : List ℕ → Type 0
IsTerm t = read_term t ≡ Ok (length t)

-- Making an empty book: any contents of the right length become zeros, which hold no rules; another length stays as it is.
pub record Empties (ws ws' : List ℕ) (r : ℕ) : Type 0 where
  pub made : length ws ≡ book_words → (r ≡ 0) × (ws' ≡ replicate book_words 0)
  pub refused : ¬ (length ws ≡ book_words) → (r ≡ 1) × (ws' ≡ ws)

-- The number of a wrong length.
abbrev pub refusal_of_wrong_length : WrongLength → ℕ
refusal_of_wrong_length why = 1

-- The number of the answer: 0, or that of a wrong length.
abbrev pub refusal_of_empty : Result (Unit {0}) WrongLength → ℕ
refusal_of_empty (Ok x) = 0
refusal_of_empty (Err why) = refusal_of_wrong_length why

-- What stands under a number: nothing, or the length of its term, and its cells with zeros after them.
abbrev pub shown : Held → Option Shown
shown nothing = None
shown (rule r) = Some (record { size = length r.term; cells = r.term ++ replicate (32 - length r.term) 0 })

abbrev pub Shows : List ℕ → ℕ → Option Shown → Type 0
Shows ws k it = it ≡ shown (rules_in ws k)

-- The room record: rules held and node count.
pub record Counts (ws : List ℕ) (rules nodes : ℕ) : Type 0 where
  pub rules_are : rules ≡ rule_count (rules_in ws)
  pub nodes_are : nodes ≡ nodes_of (rules_in ws)

-- The place of a number's record, where the number is held.
abbrev pub place_of : View → ℕ → Option ℕ
place_of v k = then_some (held_at v k) (v.place k)
