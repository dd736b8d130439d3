-- The matching machine: it reads a rule's cells from left to right and decides all four questions in one pass, without
-- looking for a filling. `decides` of proofs/Meaning says that it accepts exactly the rules that answer.
use Rattle.std.specs.Prelude.{[], ◌∷◌, Bool, true, false, ℕ, zero, suc, ◌+◌, ◌/◌, eqb}
use Rattle.term.specs.Cells.{Cell, vari, symb, Row, Blank, arity}
use Rattle.term.specs.Questions.{Mode, variants, instances, generalisations, unifiables}

-- Failed for good; or at a point with some subterms of the rule still to skip, since a blank of the question stands for
-- them, and a rest of the question still to meet.
pub data State : Type 0 where
  failed : State
  at : (skip : ℕ) (rest : Row Blank) → State

-- What is left of a row past its next k subterms.
abbrev pub past : {X : Type 0} → ℕ → Row X → Row X
past k [] = []
past zero (c ∷ s) = c ∷ s
past (suc k) (c ∷ s) = past (arity c + k) s

abbrev pub only_if : Bool → State → State
only_if true s = s
only_if false s = failed

-- The rule's cell meets the question's cell, before the rest s of the question. fq: the question's blanks may be filled,
-- fr: the rule's may. A blank takes a whole subterm of the other side, and a blank against a blank goes one way only.
abbrev pub meet : (fq fr : Bool) (rule question : Cell Blank) → Row Blank → State
meet fq fr (vari x) (vari y) s = at 0 s
meet fq fr (symb c) (vari y) s = only_if fq (at (c / 4096) s)
meet fq fr (vari x) (symb d) s = only_if fr (at 0 (past (d / 4096) s))
meet fq fr (symb c) (symb d) s = only_if (eqb d c) (at 0 s)

-- One cell of the rule.
abbrev pub step : (fq fr : Bool) → Cell Blank → State → State
step fq fr c failed = failed
step fq fr c (at (suc k) s) = at (arity c + k) s
step fq fr c (at zero []) = failed
step fq fr c (at zero (d ∷ s)) = meet fq fr c d s

abbrev pub run : (fq fr : Bool) → State → Row Blank → State
run fq fr s [] = s
run fq fr s (c ∷ r) = run fq fr (step fq fr c s) r

-- Nothing to skip and nothing left to meet.
abbrev pub done : State → Bool
done failed = false
done (at (suc k) s) = false
done (at zero []) = true
done (at zero (c ∷ s)) = false

abbrev pub question_fills : Mode → Bool
question_fills variants = false
question_fills instances = true
question_fills generalisations = false
question_fills unifiables = true

abbrev pub rule_fills : Mode → Bool
rule_fills variants = false
rule_fills instances = false
rule_fills generalisations = true
rule_fills unifiables = true

abbrev pub accepts : Mode → (q r : Row Blank) → Bool
accepts m q r = done (run (question_fills m) (rule_fills m) (at 0 q) r)
