-- A question lists exactly the rules that answer it by the published meaning, in order and each once.
use Rattle.std.specs.Prelude.{◌≡◌, refl, ◌↔◌, Bool, true, false, ℕ, zero, suc, ◌≤◌, ◌<◌, length}
use Rattle.std.proofs.Common.{sym, ◌∙◌, arith, length-append}
use Rattle.std.proofs.Math.Path.{subst}
use mathlib.Core.List.{List, Memᴰ}
use Rattle.std.proofs.Math.Dec.{T}
use Rattle.std.proofs.Math.Seq.{take-length}
use Rattle.layout.specs.Layout.{rule_numbers}
use Rattle.term.specs.Cells.{Terms, blank_form}
use Rattle.term.specs.Questions.{Mode, Answers, instances, generalisations}
use Rattle.term.specs.Machine.{accepts}
use Rattle.term.specs.Meaning.{other_way}
use Rattle.term.proofs.Meaning.{decides}
use Rattle.term.specs.Whole.{whole_term}
use Rattle.book.specs.Rules.{Rule, Held, nothing, rule, Rules, each, terms_of, rule_count}
use Rattle.book.specs.Gathered.{rule_inj}
use Rattle.book.specs.Promises.{IsTerm}
use Rattle.questions.specs.Asking.{Ordered, keep_if, answering, answers, Listed}
use Rattle.questions.specs.Order.{listed, in_order, as_many}

-- All rules have whole terms.
abbrev pub WholeRules : Rules → Type 0
WholeRules rules = (k : ℕ) (r : Rule) → rules k ≡ rule r → IsTerm r.term

pub term_form : (t : List ℕ) → IsTerm t → Terms 1 (blank_form t)
term_form t w = subst (λ (s : List ℕ). Terms 1 (blank_form s)) (take-length t) (whole_term t (length t) w).form

module _ (mode : Mode) (q : List ℕ) where
  abbrev answers_in : Rules → ℕ → Bool
  answers_in rules k = answering mode q (rules k)

  of_held : (h : Held) → T (answering mode q h) → (r : Rule) × (h ≡ rule r) × T (accepts mode (blank_form q) (blank_form r.term))
  of_held nothing a = absurd a
  of_held (rule r) a = (r, refl, a)

  -- by the machine
  pub accepted : (rules : Rules) (k : ℕ)
      → Memᴰ k (answers mode q rules) ↔ ((k < rule_numbers) × ((r : Rule) × (rules k ≡ rule r) × T (accepts mode (blank_form q) (blank_form r.term))))
  unfolding answers
  accepted rules k = (
    (λ i. let x = (listed rules (answers_in rules) k).0 i in (x.0, of_held (rules k) x.1)),
    (λ x. (listed rules (answers_in rules) k).1 (x.0, subst (λ (h : Held). T (answering mode q h)) (sym x.1.1) x.1.2)),
  )

  -- by the meaning: complete and sound, for every set of rules and every question
  pub lists : (rules : Rules) → IsTerm q → WholeRules rules → (k : ℕ) → Memᴰ k (answers mode q rules) ↔ Listed mode q rules k
  lists rules wq wr k = (
    (λ i. let a = (accepted rules k).0 i in
        record { low = a.0; its = a.1.0; held = a.1.1; answers = (decided a.1.0 a.1.1).0 a.1.2 }),
    (λ l. (accepted rules k).1 (l.low, (l.its, l.held, (decided l.its l.held).1 l.answers))),
  )
    where
      decided : (r : Rule) → rules k ≡ rule r → T (accepts mode (blank_form q) (blank_form r.term)) ↔ Answers mode (blank_form q) (blank_form r.term)
      decided r e = decides mode (blank_form q) (blank_form r.term) (term_form q wq) (term_form r.term (wr k r e))

  -- in order, each once
  pub ordered : (rules : Rules) → Ordered rules (answers mode q rules)
  unfolding answers
  ordered rules = in_order rules (answers_in rules)

-- A list never has more numbers than there are rules.
shorter : {A B : Type 0} (f : ℕ → List A) (g : ℕ → List B) → ((j : ℕ) → length (f j) ≤ length (g j)) → (n k : ℕ) → length (each f n k) ≤ length (each g n k)
unfolding each
shorter f g h zero k = omega arith
shorter f g h (suc n) k =
    let x = h k in let y = shorter f g h n (suc k) in
    omega (arith, length-append (f k) (each f n (suc k)), length-append (g k) (each g n (suc k)))

pub never_more : (mode : Mode) (q : List ℕ) (rules : Rules) → length (answers mode q rules) ≤ rule_count rules
unfolding answers
never_more mode q rules =
    let l = shorter (λ k. keep_if (answering mode q (rules k)) k) (λ k. terms_of (rules k)) (λ k. one k (rules k)) rule_numbers 0 in
    omega (arith, l, as_many rules (λ k. answering mode q (rules k)))
  where
    kept_one : (b : Bool) (k : ℕ) → length (keep_if b k) ≤ 1
    kept_one true k = omega arith
    kept_one false k = omega arith

    one : (k : ℕ) (h : Held) → length (keep_if (answering mode q h) k) ≤ length (terms_of h)
    one k nothing = omega arith
    one k (rule r) = kept_one (accepts mode (blank_form q) (blank_form r.term)) k

-- A rule is listed as a generalisation of a pattern exactly when that pattern, were it the rule, would be listed as an instance of it.
pub other_way_listed : (rules swapped : Rules) (r s : Rule) (k : ℕ) → WholeRules rules → WholeRules swapped → rules k ≡ rule r → swapped k ≡ rule s
    → Memᴰ k (answers generalisations s.term rules) ↔ Memᴰ k (answers instances r.term swapped)
other_way_listed rules swapped r s k wr ws e f = (
  (λ i. let l = (lists generalisations s.term rules (ws k s f) wr k).0 i in
      let a = subst (λ (x : Rule). Answers generalisations (blank_form s.term) (blank_form x.term)) (rule_inj (sym l.held ∙ e)) l.answers in
      (lists instances r.term swapped (wr k r e) ws k).1 (record { low = l.low; its = s; held = f; answers = turned.0 a })),
  (λ i. let l = (lists instances r.term swapped (wr k r e) ws k).0 i in
      let a = subst (λ (x : Rule). Answers instances (blank_form r.term) (blank_form x.term)) (rule_inj (sym l.held ∙ f)) l.answers in
      (lists generalisations s.term rules (ws k s f) wr k).1 (record { low = l.low; its = r; held = e; answers = turned.1 a })),
)
  where
    turned : Answers generalisations (blank_form s.term) (blank_form r.term) ↔ Answers instances (blank_form r.term) (blank_form s.term)
    turned = other_way (blank_form s.term) (blank_form r.term)
