-- Cells, rows and terms: Reference 2 and 3.
use Rattle.std.specs.Prelude.{List, [], ◌∷◌, map, ℕ, zero, suc, ◌+◌, ◌-◌, ◌/◌, ◌<◌, ltb}
use Rattle.deciding.specs.Deciding.{pick}

-- A cell is a variable or a symbol. A symbol is its name number and its arity together, the 15 bits below a cell's first.
-- X is what tells variables apart: their numbers in a term, and nothing in a blank form.
pub data Cell (X : Type 0) : Type 0 where
  vari : X → Cell X
  symb : ℕ → Cell X

abbrev pub Row : Type 0 → Type 0
Row X = List (Cell X)

-- The one mark that stands for each variable of a blank form, written *.
pub data Blank : Type 0 where
  blank : Blank

abbrev pub star : Cell Blank
star = vari blank

-- The 3 bits after a symbol's first; a variable has no arguments.
abbrev pub arity : {X : Type 0} → Cell X → ℕ
arity (vari x) = 0
arity (symb c) = c / 4096

-- A symbol's first bit is 0: 3 bits of arity and 12 bits of name number are left.
abbrev pub Proper : {X : Type 0} → Cell X → Type 0
Proper (vari x) = Unit {0}
Proper (symb c) = c < 32768

-- `Terms n s`: the row s is n terms in preorder, one after another. A cell takes one away from those wanted and adds its arity.
pub data Terms {X : Type 0} : ℕ → Row X → Type 0 where
  none : Terms zero []
  more : {c : Cell X} {n : ℕ} {s : Row X} → Proper c → Terms (arity c + n) s → Terms (suc n) (c ∷ s)

-- A blank form: * for each variable.
abbrev pub blanked : {X : Type 0} → Cell X → Cell Blank
blanked (vari x) = star
blanked (symb c) = symb c

abbrev pub cell_of : ℕ → Cell ℕ
cell_of c = pick (ltb c 32768) (symb c) (vari (c - 32768))

abbrev pub term_of : List ℕ → Row ℕ
term_of = map cell_of

-- The blank form of a row of 16-bit numbers, in one go.
abbrev pub blank_of : ℕ → Cell Blank
blank_of c = pick (ltb c 32768) (symb c) star

abbrev pub blank_form : List ℕ → Row Blank
blank_form = map blank_of

-- A blank form as the numbers that a book holds: the blank mark is 32,768.
abbrev pub number_of : Cell Blank → ℕ
number_of (vari x) = 32768
number_of (symb c) = c
