-- The machine answers each of the four questions.
use Rattle.std.specs.Prelude.{◌↔◌, true, false, T, length}
use Rattle.std.proofs.Common.{sym, ◌∙◌, subst, arith}
use Rattle.term.specs.Cells.{Row, Blank, Terms}
use Rattle.term.specs.Questions.{fill, Mode, variants, instances, generalisations, unifiables, Answers}
use Rattle.term.specs.Machine.{accepts}
use Rattle.term.specs.Matching.{Match, flip, machine}
use Rattle.term.specs.Meaning.{Fill, to_filling, of_filling, same, equal, to_fill, of_fill, joined, unify}

-- For all four questions and all terms: the machine accepts exactly when the rule answers.
pub decides : (m : Mode) (q r : Row Blank) → Terms 1 q → Terms 1 r → T (accepts m q r) ↔ Answers m q r
unfolding Answers
decides variants q r wq wr = let e = machine false false 1 q r wq wr in
    (λ h. equal (e.0 h), λ p. e.1 (subst (λ (s : Row Blank). Match false false q s) p (same q)))
decides instances q r wq wr = let e = machine true false 1 q r wq wr in
    (λ h. to_filling (to_fill (e.0 h)), λ a. e.1 (of_fill (subst (λ (s : Row Blank). Fill q s) a.1 (of_filling a.0 0 q))))
decides generalisations q r wq wr = let e = machine false true 1 q r wq wr in
    (λ h. to_filling (to_fill (flip (e.0 h))), λ a. e.1 (flip (of_fill (subst (λ (s : Row Blank). Fill r s) a.1 (of_filling a.0 0 r)))))
decides unifiables q r wq wr = let e = machine true true 1 q r wq wr in (
  λ h. let j = joined (e.0 h) in let f = to_filling j.1 in let g = to_filling j.2 in (f.0, g.0, f.1 ∙ sym g.1),
  λ a. e.1 (unify (length q) 1 q r (fill a.1 0 r) (omega arith) wq wr (subst (λ (s : Row Blank). Fill q s) a.2 (of_filling a.0 0 q)) (of_filling a.1 0 r)),
)
