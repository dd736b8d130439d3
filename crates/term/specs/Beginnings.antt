-- The node count of a set of rules: the number of different non-empty beginnings of their blank forms (Reference 5.2).
-- Over any kind of cell with a test for being the same, since the tree in memory has its cells as numbers.
use Rattle.std.specs.Prelude.{◌≡◌, Bool, true, false, not, ℕ, eqb, length}
use mathlib.Core.List.{List, [], ◌∷◌, ◌++◌, map, Memᴰ}
use Rattle.deciding.specs.Deciding.{both}
use Rattle.term.specs.Cells.{Cell, vari, symb, Blank, blank_form}

-- The non-empty beginnings of a row, and of each of some rows.
abbrev pub inits : {A : Type 0} → List A → List (List A)
inits [] = []
inits (c ∷ r) = (c ∷ []) ∷ map (λ p. c ∷ p) (inits r)

abbrev pub beginnings : {A : Type 0} → List (List A) → List (List A)
beginnings [] = []
beginnings (f ∷ fs) = inits f ++ beginnings fs

abbrev pub either : Bool → Bool → Bool
either true b = true
either false b = b

abbrev pub put_if : {A : Type 0} → Bool → A → List A → List A
put_if true a l = a ∷ l
put_if false a l = l

module _ {A : Type 0} (same : A → A → Bool) where
  abbrev pub same_rows : List A → List A → Bool
  same_rows [] [] = true
  same_rows [] (d ∷ s) = false
  same_rows (c ∷ r) [] = false
  same_rows (c ∷ r) (d ∷ s) = both (same c d) (same_rows r s)

  abbrev pub has : List (List A) → List A → Bool
  has [] p = false
  has (r ∷ rs) p = either (same_rows r p) (has rs p)

  -- each row once
  abbrev pub different : List (List A) → List (List A)
  different [] = []
  different (r ∷ rs) = put_if (not (has rs r)) r (different rs)

  unfoldable pub nodes : List (List A) → ℕ
  nodes forms = length (different (beginnings forms))

-- Nothing stands twice in the list.
abbrev pub Distinct : {A : Type 0} → List A → Type 0
Distinct [] = Unit {0}
Distinct (x ∷ xs) = (¬ (Memᴰ x xs)) × Distinct xs

-- p is a beginning of some form, and not empty.
pub record Begins {A : Type 0} (p : List A) (forms : List (List A)) : Type 0 where
  pub form : List A
  pub among : Memᴰ form forms
  pub rest : List A
  pub is : p ++ rest ≡ form
  pub not_empty : ¬ (p ≡ [])

-- Are two cells of blank forms the same?
abbrev pub same_cell : Cell Blank → Cell Blank → Bool
same_cell (vari x) (vari y) = true
same_cell (vari x) (symb d) = false
same_cell (symb c) (vari y) = false
same_cell (symb c) (symb d) = eqb c d

-- The node count of rules, given by their terms' cells.
abbrev pub node_count : List (List ℕ) → ℕ
node_count terms = nodes same_cell (map blank_form terms)
