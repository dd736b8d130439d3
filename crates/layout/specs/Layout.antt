-- Where what stands in a book's memory, and how much of it there is: the words in their order, with their numbers on the left.
--
--        0  ┌────────────────┐
--           │ node map       │   a bit for each node: is it in use?
--       64  ├────────────────┤
--           │ rule map       │   the same for each place of a rule
--       72  ├────────────────┤
--           │ links          │   the root, the nodes, and behind them the rules: a word each. Up to here it is the tree
--    4,681  ├────────────────┤
--           │ signs          │   hints for the search: fields of 16 bits, four to a word
--    6,986  ├────────────────┤
--           │ places         │   for each rule number the place of its rule, four to a word
--    8,010  ├────────────────┤
--           │ records        │   for each place the length of a term, and the words with its cells
--   12,618  └────────────────┘
--
-- Of all crates only this one has these numbers, here for specs and proofs and in src/lib.rt, under the same names, for code; all others
-- cite the names. Each number is computed from those above it, so a part that grows, or that moves away from the part before it, is an
-- edit of one line here and of one there. The tree stands first: a link has the same place in the tree's words and in the book's.
use Rattle.std.specs.Prelude.{ℕ, ◌+◌, ◌-◌, ◌*◌}

-- ---- limits

-- Rule numbers are those of 12 bits.
abbrev pub rule_numbers : ℕ
rule_numbers = 4096

abbrev pub node_map_words : ℕ
node_map_words = 64

abbrev pub rule_map_words : ℕ
rule_map_words = 8

-- A book holds what its maps have bits for, 64 to a word.
abbrev pub nodes_limit : ℕ
nodes_limit = 64 * node_map_words

abbrev pub rules_limit : ℕ
rules_limit = 64 * rule_map_words

-- ---- the tree

-- Always the lowest free node is taken, so this word of the map is the last in which one comes into use.
abbrev pub node_map_last : ℕ
node_map_last = node_map_words - 1

abbrev pub rule_map_at : ℕ
rule_map_at = node_map_words

abbrev pub map_words : ℕ
map_words = rule_map_at + rule_map_words

-- The link l stands at `links_at + l`: 0 is the root, n + 1 the node n, and `first_rule + r` the rule at the place r.
abbrev pub links_at : ℕ
links_at = map_words

abbrev pub nodes_at : ℕ
nodes_at = links_at + 1

abbrev pub first_rule : ℕ
first_rule = nodes_limit + 1

abbrev pub rules_at : ℕ
rules_at = links_at + first_rule

abbrev pub last_link : ℕ
last_link = nodes_limit + rules_limit

abbrev pub tree_words : ℕ
tree_words = links_at + last_link + 1

-- ---- signs

abbrev pub signs_at : ℕ
signs_at = tree_words

abbrev pub sign_words : ℕ
sign_words = 2305

abbrev pub signs_end : ℕ
signs_end = signs_at + sign_words

-- Their fields: for the root and each node, by its link, the last child; a field that nobody reads; and in the words behind it the signs.
abbrev pub sign_fields : ℕ
sign_fields = 4 * sign_words

abbrev pub no_sign : ℕ
no_sign = nodes_limit + 1

abbrev pub first_sign : ℕ
first_sign = nodes_limit + 4

abbrev pub sign_count : ℕ
sign_count = 5120

-- ---- places

abbrev pub places_at : ℕ
places_at = signs_end

abbrev pub place_words : ℕ
place_words = 1024

abbrev pub places_end : ℕ
places_end = places_at + place_words

-- ---- records

abbrev pub term_words : ℕ
term_words = 8

abbrev pub record_words : ℕ
record_words = 1 + term_words

-- The record at the place r: the length of its term is the word `records_at + record_words * r`, and its cells begin at `terms_at + record_words * r`.
abbrev pub records_at : ℕ
records_at = places_end

abbrev pub terms_at : ℕ
terms_at = records_at + 1

abbrev pub book_words : ℕ
book_words = records_at + record_words * rules_limit
