-- The rules that a book holds, and what is counted of them: Reference 5, and refusals 6 to 9.
use Rattle.std.specs.Prelude.{Result, Ok, Err, List, [], ◌∷◌, ◌++◌, Bool, true, false, ℕ, zero, suc, eqb, leb, ltb, length}
use Rattle.deciding.specs.Deciding.{pick}
use Rattle.layout.specs.Layout.{rule_numbers, nodes_limit, rules_limit}
use Rattle.term.specs.Beginnings.{node_count}
pub use Rattle.book.specs.declared.NotAdded.{NotAdded}
pub use Rattle.book.specs.declared.NotAdded.TheVariants.{HeldAlready, BookFull, NoNodes}
pub use Rattle.book.specs.declared.NotHeld.{NotHeld}

-- A rule: its term, variables kept. What more a rule has is a field more.
pub record Rule : Type 0 where
  pub term : List ℕ

-- A rule as kind 0 adds it.
abbrev pub plain : List ℕ → Rule
plain term = record { term = term }

-- Under a number there is nothing, or a rule.
pub data Held : Type 0 where
  nothing : Held
  rule : (r : Rule) → Held

-- A set of rules: each number 0 to 4,095 has at most one.
abbrev pub Rules : Type 0
Rules = ℕ → Held

abbrev pub is_held : Held → Bool
is_held nothing = false
is_held (rule r) = true

abbrev pub terms_of : Held → List (List ℕ)
terms_of nothing = []
terms_of (rule r) = r.term ∷ []

-- No rules; one more; one less.
abbrev pub no_rules : Rules
no_rules k = nothing

abbrev pub with_rule : Rules → ℕ → Rule → Rules
with_rule rules k r j = pick (eqb j k) (rule r) (rules j)

abbrev pub without_rule : Rules → ℕ → Rules
without_rule rules k j = pick (eqb j k) nothing (rules j)

-- What f gives for each of n numbers from k on, ascending.
unfoldable pub each : {A : Type 0} → (ℕ → List A) → (n k : ℕ) → List A
each f zero k = []
each f (suc n) k = f k ++ each f n (suc k)

-- The terms of all rules, ascending by number; how many rules there are; and their node count.
abbrev pub terms : Rules → List (List ℕ)
terms rules = each (λ k. terms_of (rules k)) rule_numbers 0

abbrev pub rule_count : Rules → ℕ
rule_count rules = length (terms rules)

abbrev pub nodes_of : Rules → ℕ
nodes_of rules = node_count (terms rules)

-- The refusal number of each answer to an add.
abbrev pub refusal_of_not_added : NotAdded → ℕ
refusal_of_not_added HeldAlready = 6
refusal_of_not_added BookFull = 8
refusal_of_not_added NoNodes = 9

abbrev pub refusal_of_add : Result (Unit {0}) NotAdded → ℕ
refusal_of_add (Ok x) = 0
refusal_of_add (Err why) = refusal_of_not_added why

-- An add is judged in the order 6, 8, 9: number already held; 512 rules held; node count with the rule above 4,096.
abbrev pub judged : Rules → ℕ → Rule → Result (Unit {0}) NotAdded
judged rules k r =
    pick (is_held (rules k)) (Err HeldAlready)
    (pick (leb rules_limit (rule_count rules)) (Err BookFull)
    (pick (ltb nodes_limit (nodes_of (with_rule rules k r))) (Err NoNodes) (Ok tt)))

-- The rules after an add.
abbrev pub after : Result (Unit {0}) NotAdded → Rules → ℕ → Rule → Rules
after (Ok x) rules k r = with_rule rules k r
after (Err why) rules k r = rules

-- A remove of what stands under a number, and the refusal number of its answer.
abbrev pub removal : Held → Result (Unit {0}) NotHeld
removal nothing = Err (record {})
removal (rule r) = Ok tt

abbrev pub refusal_of_not_held : NotHeld → ℕ
refusal_of_not_held why = 7

abbrev pub refusal_of_remove : Result (Unit {0}) NotHeld → ℕ
refusal_of_remove (Ok x) = 0
refusal_of_remove (Err why) = refusal_of_not_held why
