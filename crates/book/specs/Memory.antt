-- What lent memory holds, and when it passes: docs/BOOK.md, 'The check', line by line.
use Rattle.std.specs.Prelude.{◌≡◌, List, map, Bool, true, ℕ, ◌+◌, ◌*◌, ◌≤◌, ◌<◌, eqb, ltb, length, get_or, take, drop, Ok}
use Rattle.deciding.specs.Deciding.{pick, both}
use Rattle.layout.specs.Layout.{rule_numbers, nodes_limit, rules_limit, tree_words, places_at, place_words, term_words, record_words, records_at, terms_at, book_words}
use Rattle.bits.specs.Packed.{fields}
use Rattle.term.specs.Cells.{blank_of, number_of}
use Rattle.term.specs.Reading.{read_term}
use Rattle.shape.specs.Shape.{Shape, Passes}
use Rattle.links.specs.Words.{shape}
use Rattle.shape.specs.Tallies.{listed}
use Rattle.shape.specs.Leaves.{Leaf, ends}
use Rattle.book.specs.Rules.{Rule, nothing, rule, Rules}

-- What memory says: the tree with the rules that hang in it, and for each rule number the place of its record, for each
-- place the length of the term there and 32 cells.
pub record View : Type 0 where
  pub tree : Shape
  pub place : ℕ → ℕ
  pub size : ℕ → ℕ
  pub cells : ℕ → List ℕ

-- The words, as crates/layout/specs/Layout draws them: the tree; signs, of which nothing is said; places, four to a word; and the records: the length, and 32 cells, four to a word.
abbrev pub view : List ℕ → View
view ws = record {
  tree = shape (take tree_words ws);
  place = λ k. get_or (fields (take place_words (drop places_at ws))) k 0;
  size = λ r. get_or ws (records_at + record_words * r) 0;
  cells = λ r. fields (take term_words (drop (terms_at + record_words * r) ws));
}

-- A term's blank form as the tree has it: 32,768 for each variable.
abbrev pub blank_number : ℕ → ℕ
blank_number c = number_of (blank_of c)

abbrev pub form_of : List ℕ → List ℕ
form_of t = map blank_number t

module _ (v : View) where
  -- Does a rule have the place r, what is its number, what is its term?
  abbrev pub taken : ℕ → Bool
  taken r = v.tree.used (nodes_limit + r)

  abbrev pub number : ℕ → ℕ
  number r = v.tree.cell (nodes_limit + r)

  abbrev pub term : ℕ → List ℕ
  term r = take (v.size r) (v.cells r)

  -- The rule there, as its record has it.
  abbrev pub rule_at : ℕ → Rule
  rule_at r = record { term = term r }

  abbrev pub form : ℕ → List ℕ
  form r = form_of (term r)

  abbrev pub leaf : ℕ → Leaf
  leaf r = record { slot = r; form = form r; number = number r }

  abbrev pub leaves : List Leaf
  leaves = map leaf (listed taken rules_limit)

  -- The set of rules: number k has the rule at its place, if that place is taken by a rule of number k.
  abbrev pub held_at : ℕ → Bool
  held_at k = both (ltb (v.place k) rules_limit) (both (taken (v.place k)) (eqb (number (v.place k)) k))

  abbrev pub rules_of : Rules
  rules_of k = pick (held_at k) (rule (rule_at (v.place k))) nothing

  -- A record is right: its number is below 4,096 and leads back to it, its cells are one whole term of its length, and zeros.
  pub record Recorded (r : ℕ) : Type 0 where
    pub low : number r < rule_numbers
    pub found : v.place (number r) ≡ r
    pub whole : read_term (v.cells r) ≡ Ok (v.size r)
    pub clean : (i : ℕ) → v.size r ≤ i → get_or (v.cells r) i 0 ≡ 0

  -- Each place that is taken has a record that is right, and the tree is exactly that of these rules.
  pub record Right : Type 0 where
    pub records : (r : ℕ) → taken r ≡ true → Recorded r
    pub tree : Passes v.tree (ends leaves)

-- Memory passes: it has the fixed length, and what it says is right.
pub record Passing (ws : List ℕ) : Type 0 where
  pub size : length ws ≡ book_words
  pub right : Right (view ws)

-- The rules that it holds.
abbrev pub rules_in : List ℕ → Rules
rules_in ws = rules_of (view ws)
