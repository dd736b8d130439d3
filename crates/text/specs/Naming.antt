-- The tokens get their numbers, in reading order: variables and names each by a list, in which a new one is put last.
use Rattle.std.specs.Prelude.{List, [], ◌∷◌, ◌++◌, ℕ, ◌+◌, length, eqb, ltb}
use Rattle.deciding.specs.Deciding.{pick}
use Rattle.names.specs.Name.{passes_as_name}
use Rattle.names.specs.Table.{slot_in}
use Rattle.text.specs.Term.{Token, variable, name, shape_of}

-- The list with a word in it.
unfoldable pub entered : List (List ℕ) → List ℕ → List (List ℕ)
entered words word = pick (ltb (slot_in words word) (length words)) words (words ++ word ∷ [])

-- A token's number, and both lists after it; or refusal 4 for a seventeenth variable, 11 for bytes that are no name.
pub record TokenNumber : Type 0 where
  pub refusal : ℕ
  pub number : ℕ
  pub names : List (List ℕ)
  pub variables : List (List ℕ)

abbrev pub numbered : (refusal number : ℕ) → (names variables : List (List ℕ)) → TokenNumber
numbered refusal number names variables = record { refusal = refusal; number = number; names = names; variables = variables }

unfoldable pub number_of : (names variables : List (List ℕ)) → Token → TokenNumber
number_of names variables (variable word) =
    pick (ltb (slot_in variables word) 16) (numbered 0 (slot_in variables word) names (entered variables word)) (numbered 4 0 names variables)
number_of names variables (name bytes arity) =
    pick (passes_as_name bytes) (numbered 0 (slot_in names bytes) (entered names bytes) variables) (numbered 11 0 names variables)

-- All tokens: their cells and the names after them, or the first refusal.
pub record TokenCells : Type 0 where
  pub refusal : ℕ
  pub cells : List ℕ
  pub names : List (List ℕ)

abbrev pub named : ℕ → List ℕ → List (List ℕ) → TokenCells
named refusal cells names = record { refusal = refusal; cells = cells; names = names }

abbrev pub cell_before : ℕ → TokenCells → TokenCells
cell_before cell others = named others.refusal (cell ∷ others.cells) others.names

unfoldable pub naming : (names variables : List (List ℕ)) → List Token → TokenCells
naming names variables [] = named 0 [] names
naming names variables (token ∷ tokens) =
    pick (eqb (number_of names variables token).refusal 0)
    (cell_before (shape_of token + (number_of names variables token).number)
    (naming (number_of names variables token).names (number_of names variables token).variables tokens))
    (named (number_of names variables token).refusal [] names)
