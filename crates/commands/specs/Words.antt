-- The table of kinds in the reference's words (6): kinds 2 to 5 and 7 need number 0, 0 and 2 to 5 are followed by a term, from 8 on there are none.
use Rattle.std.specs.Prelude.{◌≡◌, refl, ◌⊎◌, ◌↔◌, Bool, true, false, ℕ, ◌≤◌, eqb, leb, ltb, Option, Some, None, is_some}
use Rattle.std.proofs.Common.{sym, ap, ◌∙◌, inl, inr, arith, eq-eqb, ne_eqb, eqb-true, le-leb, leb-true, le-ltb, ltb-false}
use Rattle.std.proofs.lemmas.Bool.{lt-leb}
use Rattle.deciding.specs.Deciding.{both, of_both, true_not_false}
use Rattle.term.specs.Questions.{Mode, variants, instances, generalisations, unifiables}
use Rattle.commands.specs.Kinds.{Act, Add, Remove, Ask, Show, Room, Kind, ask, kinds, kind_at, act_of, zero_of, term_of, every, or_not, same, same_true, since, at_kind}

abbrev either : Bool → Bool → Bool
either true b = true
either false b = b

either_true : (a b : Bool) → either a b ≡ true → (a ≡ true) ⊎ (b ≡ true)
either_true true b e = inl refl
either_true false b e = inr e

either_of : (a b : Bool) → (a ≡ true) ⊎ (b ≡ true) → either a b ≡ true
either_of true b w = refl
either_of false b (inl e) = absurd (true_not_false e refl)
either_of false b (inr e) = e

-- ---- the four questions

abbrev question : ℕ → Bool
question k = both (leb 2 k) (leb k 5)

asked : (k : ℕ) → question k ≡ true → (2 ≤ k) × (k ≤ 5)
asked k e = let x = of_both (leb 2 k) (leb k 5) e in (leb-true 2 k x.0, leb-true k 5 x.1)

asks : (k : ℕ) → 2 ≤ k → k ≤ 5 → question k ≡ true
asks k h l = rw (le-leb 2 k h, le-leb k 5 l)

no_question : (k : ℕ) → 8 ≤ k → question k ≡ false
no_question k h = rw (le-leb 2 k (omega arith), lt-leb k 5 (omega arith))

-- ---- the columns

known_is : (k : ℕ) → is_some (kind_at k) ≡ ltb k 8
known_is k = same_true (is_some (kind_at k)) (ltb k 8) (at_kind (λ n row. same (is_some row) (ltb n 8)) (λ n h. rw (le-ltb n 8 h)) refl k)

zero_is : (k : ℕ) → zero_of (kind_at k) ≡ either (question k) (eqb k 7)
zero_is k =
    same_true (zero_of (kind_at k)) (either (question k) (eqb k 7))
    (at_kind (λ n row. same (zero_of row) (either (question n) (eqb n 7))) (λ n h. rw (no_question n h, ne_eqb n 7 (λ e. absurd (omega arith)))) refl k)

term_follows : (k : ℕ) → term_of (kind_at k) ≡ either (eqb k 0) (question k)
term_follows k =
    same_true (term_of (kind_at k)) (either (eqb k 0) (question k))
    (at_kind (λ n row. same (term_of row) (either (eqb n 0) (question n))) (λ n h. rw (ne_eqb n 0 (λ e. absurd (omega arith)), no_question n h)) refl k)

none_is : (row : Option Kind) → is_some row ≡ false → row ≡ None
none_is None e = refl
none_is (Some r) e = absurd (true_not_false refl e)

unknown_kinds : (k : ℕ) → kind_at k ≡ None ↔ 8 ≤ k
unknown_kinds k = (λ e. ltb-false k 8 (sym (known_is k) ∙ ap is_some e), λ h. none_is (kind_at k) (known_is k ∙ le-ltb k 8 h))

zero_kinds : (k : ℕ) → zero_of (kind_at k) ≡ true ↔ (((2 ≤ k) × (k ≤ 5)) ⊎ (k ≡ 7))
zero_kinds k = (λ e. to (either_true (question k) (eqb k 7) (sym (zero_is k) ∙ e)), λ x. zero_is k ∙ either_of (question k) (eqb k 7) (of x))
  where
    to : (question k ≡ true) ⊎ (eqb k 7 ≡ true) → ((2 ≤ k) × (k ≤ 5)) ⊎ (k ≡ 7)
    to (inl e) = inl (asked k e)
    to (inr e) = inr (eqb-true k 7 e)

    of : ((2 ≤ k) × (k ≤ 5)) ⊎ (k ≡ 7) → (question k ≡ true) ⊎ (eqb k 7 ≡ true)
    of (inl x) = inl (asks k x.0 x.1)
    of (inr e) = inr (eq-eqb k 7 e)

term_kinds : (k : ℕ) → term_of (kind_at k) ≡ true ↔ ((k ≡ 0) ⊎ ((2 ≤ k) × (k ≤ 5)))
term_kinds k = (λ e. to (either_true (eqb k 0) (question k) (sym (term_follows k) ∙ e)), λ x. term_follows k ∙ either_of (eqb k 0) (question k) (of x))
  where
    to : (eqb k 0 ≡ true) ⊎ (question k ≡ true) → (k ≡ 0) ⊎ ((2 ≤ k) × (k ≤ 5))
    to (inl e) = inl (eqb-true k 0 e)
    to (inr e) = inr (asked k e)

    of : (k ≡ 0) ⊎ ((2 ≤ k) × (k ≤ 5)) → (eqb k 0 ≡ true) ⊎ (question k ≡ true)
    of (inl e) = inl (eq-eqb k 0 e)
    of (inr x) = inr (asks k x.0 x.1)

-- ---- what each does

abbrev number_of : Option Act → ℕ
number_of None = 0
number_of (Some Add) = 1
number_of (Some Remove) = 2
number_of (Some (Ask false false)) = 3
number_of (Some (Ask true false)) = 4
number_of (Some (Ask false true)) = 5
number_of (Some (Ask true true)) = 6
number_of (Some Show) = 7
number_of (Some Room) = 8

-- an act that one row has
abbrev only : Act → ℕ → ℕ → Option Kind → Bool
only act n k row = or_not (eqb (number_of (act_of row)) (number_of (Some act))) (eqb k n)

one_kind : (act : Act) (n : ℕ) → every (only act n) 0 kinds ≡ true → ((k : ℕ) → only act n k None ≡ true) → act_of (kind_at n) ≡ Some act → (k : ℕ) → act_of (kind_at k) ≡ Some act ↔ k ≡ n
one_kind act n all behind at k =
    (λ e. eqb-true k n (since _ (eqb k n) (at_kind (only act n) (λ j _. behind j) all k) (eq-eqb _ _ (ap number_of e))), λ e. ap (λ (j : ℕ). act_of (kind_at j)) e ∙ at)

-- the kind of each question
abbrev pub kind_of : Mode → ℕ
kind_of variants = 2
kind_of instances = 3
kind_of generalisations = 4
kind_of unifiables = 5

ask_kinds : (mode : Mode) (k : ℕ) → act_of (kind_at k) ≡ Some (ask mode) ↔ k ≡ kind_of mode
unfolding kind_at
ask_kinds variants = one_kind (ask variants) 2 refl (λ _. refl) refl
ask_kinds instances = one_kind (ask instances) 3 refl (λ _. refl) refl
ask_kinds generalisations = one_kind (ask generalisations) 4 refl (λ _. refl) refl
ask_kinds unifiables = one_kind (ask unifiables) 5 refl (λ _. refl) refl

-- ---- all together

pub record InWords (k : ℕ) : Type 0 where
  pub unknown_from : kind_at k ≡ None ↔ 8 ≤ k
  pub needs_zero : zero_of (kind_at k) ≡ true ↔ (((2 ≤ k) × (k ≤ 5)) ⊎ (k ≡ 7))
  pub takes_term : term_of (kind_at k) ≡ true ↔ ((k ≡ 0) ⊎ ((2 ≤ k) × (k ≤ 5)))
  pub adds : act_of (kind_at k) ≡ Some Add ↔ k ≡ 0
  pub removes : act_of (kind_at k) ≡ Some Remove ↔ k ≡ 1
  pub asks_by : (mode : Mode) → act_of (kind_at k) ≡ Some (ask mode) ↔ k ≡ kind_of mode
  pub shows : act_of (kind_at k) ≡ Some Show ↔ k ≡ 6
  pub counts : act_of (kind_at k) ≡ Some Room ↔ k ≡ 7

pub in_words : (k : ℕ) → InWords k
unfolding kind_at
in_words k = record {
  unknown_from = unknown_kinds k;
  needs_zero = zero_kinds k;
  takes_term = term_kinds k;
  adds = one_kind Add 0 refl (λ _. refl) refl k;
  removes = one_kind Remove 1 refl (λ _. refl) refl k;
  asks_by = λ mode. ask_kinds mode k;
  shows = one_kind Show 6 refl (λ _. refl) refl k;
  counts = one_kind Room 7 refl (λ _. refl) refl k;
}
