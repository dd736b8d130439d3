-- The eleven proved cases of Reference 13, as rows of one table that one statement covers: `eleven` of proofs/Examples.
use Rattle.std.specs.Prelude.{◌≡◌, List, [], ◌∷◌, Bool, true, false, not, ℕ, T, eqb, length, Result, Ok, Err}
use Rattle.std.proofs.Common.{ap, subst, arith, eqb→eq}
use Rattle.std.proofs.Math.Seq.{take-length}
use Rattle.deciding.specs.Deciding.{both}
use Rattle.term.specs.Cells.{Terms, blank_form}
use Rattle.term.specs.Reading.{Refused, Fault, TooLong, CutShort, FieldSet, AboveFifteen, AboveCount, refusal_of, read_term, reading_refusal, reading_cells}
use Rattle.term.specs.Questions.{Mode, variants, instances, generalisations, unifiables, Answers}
use Rattle.term.specs.Beginnings.{node_count}
use Rattle.term.specs.Machine.{accepts}
use Rattle.term.specs.Whole.{whole_term}

-- f/2 and f/1, g/1, a, b, and the first two variables
abbrev f : ℕ
f = 0x2001

abbrev f₁ : ℕ
f₁ = 0x1001

abbrev g : ℕ
g = 0x1004

abbrev a : ℕ
a = 0x0002

abbrev b : ℕ
b = 0x0003

abbrev x : ℕ
x = 0x8000

abbrev y : ℕ
y = 0x8001

-- A row: a rule and a question with the answer; two patterns of which neither answers for the other; rules with their
-- node count; cells with how they are read, as the refusal, or 0, and the place or the length.
pub data Case : Type 0 where
  asks : (rule : List ℕ) → Mode → (question : List ℕ) → Bool → Case
  neither : List ℕ → Mode → List ℕ → Case
  counts : List (List ℕ) → ℕ → Case
  reads : List ℕ → (refusal cells : ℕ) → Case

-- What a row says ..
unfoldable pub Says : Case → Type 0
Says (asks rule mode question true) = Answers mode (blank_form question) (blank_form rule)
Says (asks rule mode question false) = ¬ (Answers mode (blank_form question) (blank_form rule))
Says (neither one mode other) = (¬ (Answers mode (blank_form one) (blank_form other))) × (¬ (Answers mode (blank_form other) (blank_form one)))
Says (counts terms n) = node_count terms ≡ n
Says (reads cells refusal n) = (reading_refusal (read_term cells) ≡ refusal) × (reading_cells (read_term cells) ≡ n)

-- .. and a test that the checker computes.
unfoldable pub is_term_row : List ℕ → Bool
is_term_row cells = both (eqb (reading_refusal (read_term cells)) 0) (eqb (reading_cells (read_term cells)) (length cells))

unfoldable pub answers : Mode → (question rule : List ℕ) → Bool
answers mode question rule = accepts mode (blank_form question) (blank_form rule)

unfoldable pub agree : Bool → Bool → Bool
agree true c = c
agree false c = not c

unfoldable pub test : Case → Bool
test (asks rule mode question answer) = both (is_term_row question) (both (is_term_row rule) (agree answer (answers mode question rule)))
test (neither one mode other) = both (is_term_row one) (both (is_term_row other) (both (not (answers mode one other)) (not (answers mode other one))))
test (counts terms n) = eqb (node_count terms) n
test (reads cells refusal n) = both (eqb (reading_refusal (read_term cells)) refusal) (eqb (reading_cells (read_term cells)) n)

unfoldable pub table : List Case
table =
    asks (f ∷ x ∷ y ∷ []) generalisations (f ∷ a ∷ b ∷ []) true
    ∷ asks (f ∷ x ∷ b ∷ []) generalisations (f ∷ g ∷ b ∷ b ∷ []) true
    ∷ asks (f ∷ x ∷ b ∷ []) unifiables (f ∷ a ∷ x ∷ []) true
    ∷ neither (f ∷ x ∷ b ∷ []) instances (f ∷ a ∷ x ∷ [])
    ∷ asks (x ∷ []) unifiables (f ∷ x ∷ y ∷ []) true
    ∷ asks (x ∷ []) variants (f ∷ x ∷ y ∷ []) false
    ∷ asks (f ∷ a ∷ b ∷ []) instances (f₁ ∷ x ∷ []) false
    ∷ counts ((f ∷ x ∷ y ∷ []) ∷ (f ∷ g ∷ b ∷ b ∷ []) ∷ []) 6
    ∷ reads (f ∷ a ∷ []) 3 2
    ∷ reads (y ∷ []) 4 0
    ∷ reads (f ∷ x ∷ x ∷ []) 0 3
    ∷ []

-- What a test finds.
pub halves : (p q : Bool) → T (both p q) → T p × T q
halves true q h = (tt, h)
halves false q h = absurd h

no_refusal : (r : Result ℕ Refused) (n : ℕ) → reading_refusal r ≡ 0 → reading_cells r ≡ n → r ≡ Ok n
no_refusal (Ok m) n e f = ap Ok f
no_refusal (Err r) n e f = absurd (some r.fault e)
  where
    some : (fault : Fault) → ¬ (refusal_of fault ≡ 0)
    some TooLong e = omega arith
    some CutShort e = omega arith
    some FieldSet e = omega arith
    some AboveFifteen e = omega arith
    some AboveCount e = omega arith

pub is_a_term : (cells : List ℕ) → T (is_term_row cells) → Terms 1 (blank_form cells)
unfolding is_term_row
is_a_term cells h =
    let r = read_term cells in
    let k = halves (eqb (reading_refusal r) 0) (eqb (reading_cells r) (length cells)) h in
    let e = no_refusal r (length cells) (eqb→eq (reading_refusal r) 0 k.0) (eqb→eq (reading_cells r) (length cells) k.1) in
    subst (λ s. Terms 1 (blank_form s)) (take-length cells) (whole_term cells (length cells) e).form

-- Every row of a table.
unfoldable pub All : (Case → Type 0) → List Case → Type 0
All P [] = Unit {0}
All P (c ∷ cs) = P c × All P cs

unfoldable pub every : List Case → Bool
every [] = true
every (c ∷ cs) = both (test c) (every cs)
