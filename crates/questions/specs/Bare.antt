-- The question 8000, a bare variable: all rules are its instances and its unifiables, and only bare variables its variants and generalisations.
use Rattle.std.specs.Prelude.{◌≡◌, refl, ℕ, suc, ◌<◌}
use Rattle.std.proofs.Math.Path.{sym, ap}
use Rattle.std.proofs.Common.{◌∙◌, arith}
use mathlib.Core.List.{List, [], ◌∷◌, append-nil, Memᴰ}
use Rattle.layout.specs.Layout.{rule_numbers}
use Rattle.term.specs.Cells.{Row, Blank, blank, vari, symb, star, Terms, none, more, blank_form}
use Rattle.term.specs.Questions.{variants, instances, generalisations, unifiables, Filling, fill, Answers}
use Rattle.book.specs.Rules.{Rule, rule, Rules}
use Rattle.book.specs.Gathered.{rule_inj}
use Rattle.book.specs.Promises.{IsTerm}
use Rattle.questions.specs.Asking.{answers}
use Rattle.questions.specs.Demand2.{WholeRules, term_form, lists}

-- the question, and that it is a whole term
abbrev pub bare : List ℕ
bare = 32768 ∷ []

pub bare_term : IsTerm bare
unfolding Rattle.term.specs.Reading.read_term Rattle.term.specs.Reading.read_from Rattle.term.specs.Reading.takes
bare_term = refl

-- one form for each blank
only : (r : Row Blank) → Terms 1 r → Filling
only r w = record { at = λ k. r; form = λ k. w }

-- each blank for itself
itself : Filling
itself = record { at = λ k. star ∷ []; form = λ k. more tt none }

itself_same : (r : Row Blank) (k : ℕ) → fill itself k r ≡ r
unfolding fill itself
itself_same [] k = refl
itself_same (vari blank ∷ r) k = ap (λ (z : Row Blank). star ∷ z) (itself_same r (suc k))
itself_same (symb c ∷ r) k = ap (λ (z : Row Blank). symb c ∷ z) (itself_same r k)

instance_of : (r : Row Blank) → Terms 1 r → Answers instances (blank_form bare) r
unfolding Answers fill only
instance_of r w = (only r w, append-nil r)

unifies_with : (r : Row Blank) → Terms 1 r → Answers unifiables (blank_form bare) r
unfolding Answers fill only
unifies_with r w = (only r w, itself, append-nil r ∙ sym (itself_same r 0))

generalises : (r : Row Blank) → Terms 1 r → Answers generalisations (blank_form bare) r → r ≡ star ∷ []
unfolding Answers fill
generalises [] w a = elim w [ ]
generalises (vari blank ∷ r) (more p w) a = ap (λ (z : Row Blank). star ∷ z) (empty r w)
  where
    empty : (s : Row Blank) → Terms 0 s → s ≡ []
    empty [] none = refl
    empty (_ ∷ _) x = elim x [ ]
generalises (symb c ∷ r) w a = absurd (differ a.1)
  where
    differ : {s : Row Blank} → ¬ (symb c ∷ s ≡ star ∷ [])
    differ e = let z : ◌≡◌ {A = ℕ} 0 1 = cc in omega arith

module _ (rules : Rules) (wr : WholeRules rules) (k : ℕ) (r : Rule) (low : k < rule_numbers) (held : rules k ≡ rule r) where
  abbrev t : List ℕ
  t = r.term

  pub all_instances : Memᴰ k (answers instances bare rules)
  all_instances = (lists instances bare rules bare_term wr k).1
      (record { low = low; its = r; held = held; answers = instance_of (blank_form t) (term_form t (wr k r held)) })

  pub all_unifiables : Memᴰ k (answers unifiables bare rules)
  all_unifiables = (lists unifiables bare rules bare_term wr k).1
      (record { low = low; its = r; held = held; answers = unifies_with (blank_form t) (term_form t (wr k r held)) })

  pub bare_variants : Memᴰ k (answers variants bare rules) → blank_form t ≡ star ∷ []
  unfolding Answers
  bare_variants i = let l = (lists variants bare rules bare_term wr k).0 i in ap (λ (x : Rule). blank_form x.term) (rule_inj (sym held ∙ l.held)) ∙ sym l.answers

  pub bare_generalisations : Memᴰ k (answers generalisations bare rules) → blank_form t ≡ star ∷ []
  bare_generalisations i =
      let l = (lists generalisations bare rules bare_term wr k).0 i in
      ap (λ (x : Rule). blank_form x.term) (rule_inj (sym held ∙ l.held))
      ∙ generalises (blank_form l.its.term) (term_form l.its.term (wr k l.its l.held)) l.answers
