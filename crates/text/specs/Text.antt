-- A term read from text: P1 as one function of the names held, the free slots and the text.
use Rattle.std.specs.Prelude.{List, [], ◌++◌, ℕ, ◌+◌, ◌-◌, length, replicate, eqb, ltb}
use Rattle.deciding.specs.Deciding.{pick}
use Rattle.tokens.specs.Tokens.{skip}
use Rattle.text.specs.Term.{Read, term}
use Rattle.text.specs.Naming.{TokenCells, naming}

-- The refusal or 0, the place after the term, its count of cells, 32 cells, and the names afterwards.
pub record Answer : Type 0 where
  pub refusal : ℕ
  pub place : ℕ
  pub size : ℕ
  pub cells : List ℕ
  pub names : List (List ℕ)

-- Refused, all are 0, with 20 but the place, and the names are as they were.
abbrev pub refused : (names : List (List ℕ)) → (refusal place : ℕ) → Answer
refused names refusal place = record { refusal = refusal; place = place; size = 0; cells = replicate 32 0; names = names }

abbrev pub padded : List ℕ → List ℕ
padded cells = cells ++ replicate (32 - length cells) 0

-- A token's refusal comes first, since every token that was read stands before the reading's fault; 12 comes last.
abbrev pub answer : (names : List (List ℕ)) → (free : ℕ) → (text : List ℕ) → Read → TokenCells → Answer
answer names free text r n =
    pick (eqb n.refusal 0)
    (pick (eqb r.fault 0)
    (pick (ltb (length names + free) (length n.names)) (refused names 12 0)
    (record { refusal = 0; place = length text - length r.rest; size = length n.cells; cells = padded n.cells; names = n.names }))
    (refused names r.fault (pick (eqb r.fault 20) (length text - length r.rest) 0)))
    (refused names n.refusal 0)

-- One term, at the beginning of the text; what follows it isn't judged.
abbrev pub term_of : (text : List ℕ) → Read
term_of text = term 66 0 32 (skip text)

unfoldable pub read_text : (names : List (List ℕ)) → (free : ℕ) → (text : List ℕ) → Answer
read_text names free text = answer names free text (term_of text) (naming names [] (term_of text).tokens)
