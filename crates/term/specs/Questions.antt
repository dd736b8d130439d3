-- The four questions: Reference 4, line by line. These four lines are what demand 2 means.
use Rattle.std.specs.Prelude.{◌≡◌, [], ◌∷◌, ◌++◌, ℕ, suc}
use Rattle.term.specs.Cells.{vari, symb, Row, Blank, Terms}

-- A filling gives each blank, counted from the left, a blank form of its own. It has no length limit.
pub record Filling : Type 0 where
  pub at : ℕ → Row Blank
  pub form : (k : ℕ) → Terms 1 (at k)

-- The row with its blanks filled, the first of them by the k-th form of the filling.
unfoldable pub fill : Filling → ℕ → Row Blank → Row Blank
fill f k [] = []
fill f k (vari x ∷ s) = f.at k ++ fill f (suc k) s
fill f k (symb c ∷ s) = symb c ∷ fill f k s

pub data Mode : Type 0 where
  variants instances generalisations unifiables : Mode

-- Is a rule with the blank form r an answer to the question with the blank form q?
unfoldable pub Answers : Mode → (q r : Row Blank) → Type 0
Answers variants q r = q ≡ r
Answers instances q r = (f : Filling) × (fill f 0 q ≡ r)
Answers generalisations q r = (f : Filling) × (fill f 0 r ≡ q)
Answers unifiables q r = (f : Filling) × (g : Filling) × (fill f 0 q ≡ fill g 0 r)
