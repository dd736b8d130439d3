-- What a question lists: demand 2. The numbers of the rules that answer, in order, each once.
use Rattle.std.specs.Prelude.{◌≡◌, List, [], ◌∷◌, Bool, true, false, ℕ, ◌<◌}
use Rattle.layout.specs.Layout.{rule_numbers}
use Rattle.term.specs.Cells.{blank_form}
use Rattle.term.specs.Questions.{Mode, Answers}
use Rattle.term.specs.Machine.{accepts}
use Rattle.book.specs.Rules.{Rule, Held, nothing, rule, Rules, each}

-- The order of a list: one number of these rules stands before another.
abbrev pub before : Rules → ℕ → ℕ → Type 0
before rules a b = a < b

-- Each member of a list stands before those behind it; so none stands twice.
abbrev pub BeforeAll : Rules → ℕ → List ℕ → Type 0
BeforeAll rules a [] = Unit {0}
BeforeAll rules a (b ∷ l) = before rules a b × BeforeAll rules a l

abbrev pub Ordered : Rules → List ℕ → Type 0
Ordered rules [] = Unit {0}
Ordered rules (a ∷ l) = BeforeAll rules a l × Ordered rules l

abbrev pub keep_if : Bool → ℕ → List ℕ
keep_if true k = k ∷ []
keep_if false k = []

-- The numbers below n that are marked, ascending.
abbrev pub numbers : (ℕ → Bool) → ℕ → List ℕ
numbers marked n = each (λ k. keep_if (marked k) k) n 0

-- The marked numbers in the order of a list. What is known of it beyond this line stands in Order.
unfoldable pub numbers_in_order : Rules → (ℕ → Bool) → List ℕ
numbers_in_order rules marked = numbers marked rule_numbers

-- Does what stands under a number answer?
abbrev pub answering : Mode → List ℕ → Held → Bool
answering mode question nothing = false
answering mode question (rule r) = accepts mode (blank_form question) (blank_form r.term)

-- The numbers that a question lists.
unfoldable pub answers : Mode → List ℕ → Rules → List ℕ
answers mode question rules = numbers_in_order rules (λ k. answering mode question (rules k))

-- What it means that a number is listed: there is a rule under it that is in the relation with the question.
pub record Listed (mode : Mode) (question : List ℕ) (rules : Rules) (k : ℕ) : Type 0 where
  pub low : k < rule_numbers
  pub its : Rule
  pub held : rules k ≡ rule its
  pub answers : Answers mode (blank_form question) (blank_form its.term)
