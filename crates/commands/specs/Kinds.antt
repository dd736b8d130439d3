-- The table of kinds: Reference 6, a line a kind. All that is read and refused by the kind of a command goes by its row alone.
use Rattle.std.specs.Prelude.{◌≡◌, refl, List, [], ◌∷◌, Bool, true, false, not, ℕ, zero, suc, ◌+◌, ◌≤◌, ◌<◌, ltb, length, Option, Some, None, is_some}
use Rattle.std.proofs.Common.{sym, subst, arith, ltb-true}
use Rattle.std.proofs.lemmas.Bool.{not-true}
use Rattle.deciding.specs.Deciding.{both, of_both, true_not_false}
use Rattle.term.specs.Questions.{Mode, variants, instances, generalisations, unifiables}
use Rattle.term.specs.Machine.{question_fills, rule_fills}
pub use Rattle.commands.specs.declared.kinds.Act.{Act}
pub use Rattle.commands.specs.declared.kinds.Act.TheVariants.{Add, Remove, Ask, Show, Room}
pub use Rattle.commands.specs.declared.kinds.Kind.{Kind}

-- One of the four questions; and the question of two flags.
abbrev pub ask : Mode → Act
ask mode = Ask (question_fills mode) (rule_fills mode)

abbrev pub mode_of : (fillsQ fills_r : Bool) → Mode
mode_of false false = variants
mode_of true false = instances
mode_of false true = generalisations
mode_of true true = unifiables

-- A row: what the command does; has its number to be 0; does a term follow.
abbrev pub row : Act → Bool → Bool → Kind
row act z t = record { act = act; zero = z; term = t }

-- The kinds from 0 on: what each does, whether its number has to be 0, whether a term follows. 0 is add, 1 remove, 2 to 5 the four questions, 6 show, 7 room.
abbrev pub kinds : List Kind
kinds =
    row Add false true
    ∷ row Remove false false
    ∷ row (ask variants) true true
    ∷ row (ask instances) true true
    ∷ row (ask generalisations) true true
    ∷ row (ask unifiables) true true
    ∷ row Show false false
    ∷ row Room true false
    ∷ []

-- There are none behind the last row.
abbrev pub row_at : List Kind → ℕ → Option Kind
row_at [] k = None
row_at (r ∷ rows) zero = Some r
row_at (r ∷ rows) (suc k) = row_at rows k

unfoldable pub kind_at : ℕ → Option Kind
kind_at k = row_at kinds k

-- What a row says: what is done, has the number to be 0, does a term follow. Where there is no row, none of it.
abbrev pub act_of : Option Kind → Option Act
act_of (Some r) = Some r.act
act_of None = None

abbrev pub zero_of : Option Kind → Bool
zero_of (Some r) = r.zero
zero_of None = false

abbrev pub term_of : Option Kind → Bool
term_of (Some r) = r.term
term_of None = false

-- What an act is about: an add and a question are about a term; an add, a remove and a show about the rule under a number.
abbrev pub about_term : Act → Bool
about_term Add = true
about_term Remove = false
about_term (Ask fillsQ fills_r) = true
about_term Show = false
about_term Room = false

abbrev pub about_rule : Act → Bool
about_rule Add = true
about_rule Remove = true
about_rule (Ask fillsQ fills_r) = false
about_rule Show = true
about_rule Room = false

-- Which acts change the book.
abbrev pub changes_book : Act → Bool
changes_book Add = true
changes_book Remove = true
changes_book (Ask fillsQ fills_r) = false
changes_book Show = false
changes_book Room = false

-- What holds of the act that there is.
abbrev pub with_act : (Act → Bool) → Option Act → Bool
with_act test (Some act) = test act
with_act test None = false

-- ---- the two flags of a question are the question

pub fills_question : (fillsQ fills_r : Bool) → question_fills (mode_of fillsQ fills_r) ≡ fillsQ
fills_question false false = refl
fills_question true false = refl
fills_question false true = refl
fills_question true true = refl

pub fills_rule : (fillsQ fills_r : Bool) → rule_fills (mode_of fillsQ fills_r) ≡ fills_r
fills_rule false false = refl
fills_rule true false = refl
fills_rule false true = refl
fills_rule true true = refl

pub mode_is : (mode : Mode) → mode_of (question_fills mode) (rule_fills mode) ≡ mode
mode_is variants = refl
mode_is instances = refl
mode_is generalisations = refl
mode_is unifiables = refl

-- ---- laws of any table

past_last : (rows : List Kind) (k : ℕ) → length rows ≤ k → row_at rows k ≡ None
past_last [] k h = refl
past_last (r ∷ rows) zero h = absurd (omega arith)
past_last (r ∷ rows) (suc k) h = past_last rows k (omega arith)

pub behind_last : (k : ℕ) → length kinds ≤ k → kind_at k ≡ None
unfolding kind_at
behind_last k h = past_last kinds k h

abbrev pub or_not : Bool → Bool → Bool
or_not true b = b
or_not false b = true

abbrev pub same : Bool → Bool → Bool
same true b = b
same false b = not b

pub same_true : (a b : Bool) → same a b ≡ true → a ≡ b
same_true true b e = sym e
same_true false b e = sym (not-true b e)

pub since : (a b : Bool) → or_not a b ≡ true → a ≡ true → b ≡ true
since true b e f = e
since false b e f = absurd (true_not_false f refl)

-- a test of each row
abbrev pub every : (ℕ → Option Kind → Bool) → ℕ → List Kind → Bool
every test k [] = true
every test k (r ∷ rows) = both (test k (Some r)) (every test (suc k) rows)

at_each : (test : ℕ → Option Kind → Bool) (rows : List Kind) (from : ℕ) → ((k : ℕ) → length rows + from ≤ k → test k None ≡ true)
    → every test from rows ≡ true → (k : ℕ) → test (k + from) (row_at rows k) ≡ true
at_each test [] from u e k = u (k + from) (omega arith)
at_each test (r ∷ rows) from u e zero = subst (λ (n : ℕ). test n (Some r) ≡ true) (let z : from ≡ 0 + from = omega arith in z) (of_both (test from (Some r)) _ e).0
at_each test (r ∷ rows) from u e (suc k) =
    subst (λ (n : ℕ). test n (row_at rows k) ≡ true) (let z : k + suc from ≡ suc k + from = omega arith in z)
    (at_each test rows (suc from) (λ j h. u j (omega arith)) (of_both (test from (Some r)) _ e).1 k)

-- ---- laws of this table

-- a test of each row and of those behind the last
pub at_kind : (test : ℕ → Option Kind → Bool) → ((k : ℕ) → length kinds ≤ k → test k None ≡ true) → every test 0 kinds ≡ true → (k : ℕ) → test k (kind_at k) ≡ true
unfolding kind_at
at_kind test u e k = subst (λ (n : ℕ). test n (row_at kinds k) ≡ true) (let z : k + 0 ≡ k = omega arith in z) (at_each test kinds 0 (λ j h. u j (omega arith)) e k)

-- each row has what its act is about
abbrev term_fits : Option Kind → Bool
term_fits r = same (term_of r) (with_act about_term (act_of r))

abbrev number_fits : Option Kind → Bool
number_fits r = or_not (with_act about_rule (act_of r)) (both (is_some r) (not (zero_of r)))

suits : (k : ℕ) → (term_fits (kind_at k) ≡ true) × (number_fits (kind_at k) ≡ true)
suits k = of_both (term_fits (kind_at k)) (number_fits (kind_at k)) (at_kind (λ n r. both (term_fits r) (number_fits r)) (λ _ _. refl) refl k)

pub term_is : (k : ℕ) → term_of (kind_at k) ≡ with_act about_term (act_of (kind_at k))
term_is k = same_true (term_of (kind_at k)) (with_act about_term (act_of (kind_at k))) (suits k).0

-- a kind that names a rule is known, and any number will do
pub any_number : (k : ℕ) → with_act about_rule (act_of (kind_at k)) ≡ true → (is_some (kind_at k) ≡ true) × (zero_of (kind_at k) ≡ false)
any_number k e =
    let r = kind_at k in
    let x = of_both (is_some r) (not (zero_of r)) (since (with_act about_rule (act_of r)) (both (is_some r) (not (zero_of r))) (suits k).1 e) in
    (x.0, not-true (zero_of r) x.1)

-- only kinds 0 and 1 ever change the book
abbrev quiet : ℕ → Option Kind → Bool
quiet k r = or_not (with_act changes_book (act_of r)) (ltb k 2)

pub changes_below_2 : (k : ℕ) → with_act changes_book (act_of (kind_at k)) ≡ true → k < 2
changes_below_2 k e = ltb-true k 2 (since (with_act changes_book (act_of (kind_at k))) (ltb k 2) (at_kind quiet (λ _ _. refl) refl k) e)
