-- What the layout gives: numbers and cells that are small, the counts of the maps' bits, the empty memory
use Rattle.std.specs.Prelude.{◌≡◌, refl, List, [], false, ℕ, zero, suc, ◌+◌, ◌*◌, ◌-◌, ◌/◌, ◌%◌, ◌^◌, ◌≤◌, ◌<◌, eqb, length, get_or, take, drop}
use Rattle.std.proofs.Common.{sym, ap, ◌∙◌, arith, length-take, length-drop, get_or-take, get_or-drop, Fits as InWord}
use mathlib.Core.List.Memᴰ
use Rattle.std.proofs.Math.Nat.{zero-div}
use Rattle.std.proofs.Math.Decide.{dec_lt}
use Rattle.std.proofs.Math.ListN.{get_or-eq_default}
use Rattle.std.specs.Int.{w64}
use Rattle.deciding.specs.Deciding.{true_not_false}
use Rattle.layout.specs.Layout.{node_map_words, rule_map_words, nodes_limit, rules_limit, rule_map_at, map_words, links_at, last_link, tree_words}
use Rattle.bits.specs.Packed.{bits, sum}
use Rattle.bits.specs.Laws.{length_bits, get_bit}
use Rattle.shape.specs.Shape.{Shape, Hook, child, after, Used, Live, Valid, to, Fits, End, Passes, forms, Short}
use Rattle.shape.specs.Rows.{row_short}
use Rattle.shape.specs.Trie.{Bounded}
use Rattle.shape.specs.Tally.{tally, marked}
use Rattle.shape.specs.Tallies.{tally_same, map_tally}
use Rattle.links.specs.Words.{word, shape, hook}

-- the nodes' map and the rules'
abbrev pub node_map : List ℕ → List ℕ
node_map ws = take node_map_words ws

abbrev pub rule_map : List ℕ → List ℕ
rule_map ws = take rule_map_words (drop rule_map_at ws)

-- the same word makes the same bit
same_bit : (a b : List ℕ) (j k : ℕ) → get_or a (j / 64) 0 ≡ get_or b (k / 64) 0 → j % 64 ≡ k % 64 → marked a j ≡ marked b k
same_bit a b j k e f = ap (λ (x : ℕ). eqb x 1)
    (get_bit a j ∙ ap (λ (w : ℕ). w / 2 ^ (63 - j % 64) % 2) e ∙ ap (λ (s : ℕ). get_or b (k / 64) 0 / 2 ^ (63 - s) % 2) f ∙ sym (get_bit b k))

pub node_bit : (ws : List ℕ) (n : ℕ) → n < nodes_limit → marked (node_map ws) n ≡ (shape ws).used n
node_bit ws n h = same_bit (take node_map_words ws) (take map_words ws) n n
    (get_or-take node_map_words ws (n / 64) 0 (omega arith) ∙ sym (get_or-take map_words ws (n / 64) 0 (omega arith))) refl

pub rule_bit : (ws : List ℕ) (r : ℕ) → r < rules_limit → marked (rule_map ws) r ≡ (shape ws).used (nodes_limit + r)
rule_bit ws r h = same_bit (rule_map ws) (take map_words ws) r (nodes_limit + r)
    (get_or-take rule_map_words (drop rule_map_at ws) (r / 64) 0 (omega arith) ∙ get_or-drop rule_map_at ws (r / 64) 0 ∙ ap (λ (k : ℕ). get_or ws k 0) (omega arith)
    ∙ sym (get_or-take map_words ws ((nodes_limit + r) / 64) 0 (omega arith)))
    (omega arith)

-- the set bits of a map of k words
marks_held : (map : List ℕ) (k : ℕ) → length map ≡ k → sum (bits map) ≡ tally (marked map) (64 * k)
marks_held map k e = map_tally map ∙ ap (λ (z : ℕ). tally (marked map) (64 * z)) e

module _ (ws : List ℕ) (size : length ws ≡ tree_words) where
  pub map_long : length (take map_words ws) ≡ map_words
  map_long = omega (arith, length-take map_words ws)

  pub used_low : (n : ℕ) → Used (shape ws) n → n < last_link
  used_low n u = go (dec_lt n last_link)
    where
      go : Dec (n < last_link) → n < last_link
      go (yes h) = h
      go (no h) = absurd (true_not_false u
          (ap (λ (x : ℕ). eqb x 1) (get_or-eq_default (bits (take map_words ws)) 0 (omega (arith, length_bits (take map_words ws), map_long)))))

  pub live_low : (l : ℕ) → Live (shape ws) l → l ≤ last_link
  live_low zero v = omega arith
  live_low (suc n) v = used_low n v

  pub hook_low : (p b : ℕ) → Valid (shape ws) (hook p b) → b ≤ last_link
  hook_low p zero v = omega arith
  hook_low p (suc k) v = used_low k v

  -- the count of the set bits is the number of used nodes, of rules that hang, and of both
  pub nodes_held : sum (bits (node_map ws)) ≡ tally (shape ws).used nodes_limit
  nodes_held = marks_held (node_map ws) node_map_words (omega (arith, length-take node_map_words ws))
      ∙ tally_same (shape ws).used (marked (node_map ws)) nodes_limit (λ n h. node_bit ws n h)

  pub rules_held : sum (bits (rule_map ws)) ≡ tally (λ r. (shape ws).used (nodes_limit + r)) rules_limit
  rules_held =
      marks_held (rule_map ws) rule_map_words (omega (arith, length-take rule_map_words (drop rule_map_at ws), length-drop rule_map_at ws))
      ∙ tally_same (λ r. (shape ws).used (nodes_limit + r)) (marked (rule_map ws)) rules_limit (λ r h. rule_bit ws r h)

  pub bounded : ((l : ℕ) → word ws l < 2 ^ 64) → (ends : List End) → Passes (shape ws) ends → Short (forms ends) → Bounded (shape ws)
  bounded fits ends c s = record { small = λ n u. omega (arith, fits (suc n)); shallow = row_short c s }

-- an empty tree passes with no ends
pub empty_passes : (m : Shape) → ((n : ℕ) → m.used n ≡ false) → m.first 0 ≡ 0 → Passes m []
empty_passes m free none = record
    { goes = go; comes = λ n u. absurd (true_not_false u (free n)); ways = λ x i. absurd (Memᴰ.not-nil i); covered = λ n u. absurd (true_not_false u (free n)) }
  where
    go : (s : Hook) → Valid m s → {n : ℕ} → to m s ≡ suc n → Fits m s n
    go (child zero) v e = absurd (omega (arith, sym none ∙ e))
    go (child (suc k)) v e = absurd (true_not_false v (free k))
    go (after k) v e = absurd (true_not_false v (free k))

-- no bit of the maps is set, and the root has no child
pub empty_words : (ws : List ℕ) → ((k : ℕ) → k ≤ links_at → get_or ws k 0 ≡ 0) → ((n : ℕ) → (shape ws).used n ≡ false) × Passes (shape ws) []
empty_words ws h = (free, empty_passes (shape ws) free (let e = h links_at (omega arith) in root e))
  where
    root : get_or ws links_at 0 ≡ 0 → (shape ws).first 0 ≡ 0
    root e = ap (λ (w : ℕ). w / 65536 % 65536) e

    word_zero : (k : ℕ) → Dec (k < map_words) → get_or (take map_words ws) k 0 ≡ 0
    word_zero k (yes d) = get_or-take map_words ws k 0 d ∙ h k (omega arith)
    word_zero k (no d) = get_or-eq_default (take map_words ws) 0 (omega (arith, length-take map_words ws))

    free : (n : ℕ) → (shape ws).used n ≡ false
    free n = ap (λ (x : ℕ). eqb x 1)
        (get_bit (take map_words ws) n ∙ ap (λ (w : ℕ). w / 2 ^ (63 - n % 64) % 2) (word_zero (n / 64) (dec_lt (n / 64) map_words))
        ∙ ap (λ (x : ℕ). x % 2) (zero-div (2 ^ (63 - n % 64))))

-- the word of a link lies within the memory
pub at_fits : {l : ℕ} → l ≤ last_link → InWord w64 (links_at + l)
at_fits h = omega arith

pub at_bytes : {l : ℕ} → l ≤ last_link → InWord w64 ((links_at + l) * 8)
at_bytes h = omega arith

pub at_in : {k l : ℕ} → k ≡ tree_words → l ≤ last_link → links_at + l < k
at_in size h = omega arith
