-- What the book's users may count on: the empty book holds no rules; memory that passes holds one set of rules within the limits, with exactly
-- their nodes; two allowed outcomes of a call are the same; and what a call answers depends on the set of rules alone.
use Rattle.std.specs.Prelude.{◌≡◌, Option, refl, Bool, false, ℕ, zero, suc, ◌+◌, ◌≤◌, ◌<◌, eqb, ltb, length, take, replicate, Ok}
use Rattle.std.proofs.Common.{sym, ap, ◌∙◌, subst, arith, length-take, get_or-take}
use Rattle.std.proofs.Math.Path.{fun_ext}
use mathlib.Core.List.{List, [], map, reverse, append-nil, Memᴰ}
use Rattle.std.proofs.Math.Decide.{ℕ_discrete}
use Rattle.std.proofs.lemmas.List.{length-replicate, get_or-replicate}
use Rattle.deciding.specs.Deciding.{pick, both, both_false, true_not_false}
use Rattle.layout.specs.Layout.{rule_numbers, nodes_limit, rules_limit, last_link, tree_words, book_words}
use Rattle.bits.specs.Packed.{bits, sum}
use Rattle.term.specs.Beginnings.{put_if, Begins}
use Rattle.term.specs.Whole.{whole_alone}
use Rattle.shape.specs.Shape.{Used, Up, Passes}
use Rattle.shape.specs.Rows.{up_same, up_one}
use Rattle.shape.specs.Tally.{tally}
use Rattle.shape.specs.Tallies.{listed, tally_le}
use Rattle.shape.specs.Leaves.{ends, bases, numbered}
use Rattle.shape.specs.NodeCount.{Numbered}
use Rattle.links.specs.Limits.{used_low, node_map, nodes_held, empty_words}
use Rattle.book.specs.declared.Shown.{Shown}
use Rattle.book.specs.Rules.{Rule, nothing, rule, Rules, no_rules, terms, rule_count, nodes_of}
use Rattle.book.specs.Memory.{view, taken, number, term, rule_at, form_of, leaf, leaves, held_at, Passing, rules_in}
use Rattle.book.specs.Holding.{hanging, holds_at, number_low, term_size, base_forms, nodes_tally, rules_tally, count_tally}
use Rattle.book.specs.Promises.{IsTerm, Empties, shown, Shows, Counts}

-- ---- the empty book

module _ where
  abbrev zeros : List ℕ
  zeros = replicate book_words 0

  none : ((n : ℕ) → (view zeros).tree.used n ≡ false) × Passes (view zeros).tree []
  none = empty_words (take tree_words zeros) (λ k h. get_or-take tree_words zeros k 0 (omega arith) ∙ get_or-replicate book_words k 0 0 (omega arith))

  none_listed : (u : ℕ → Bool) → ((n : ℕ) → u n ≡ false) → (n : ℕ) → listed u n ≡ []
  none_listed u h zero = refl
  none_listed u h (suc n) = ap (λ (b : Bool). put_if b n (listed u n)) (h n) ∙ none_listed u h n

  no_leaves : leaves (view zeros) ≡ []
  no_leaves = ap (map (leaf (view zeros))) (none_listed (taken (view zeros)) (λ r. none.0 (nodes_limit + r)) rules_limit)

  pub empty_passes : Passing (replicate book_words 0)
  empty_passes = record {
    size = length-replicate {A = ℕ} book_words 0;
    right = record {
      records = λ r u. absurd (true_not_false u (none.0 (nodes_limit + r)));
      tree = subst (λ xs. Passes (view zeros).tree (ends xs))
          (sym no_leaves) none.1;
    };
  }

  pub empty_rules : rules_in (replicate book_words 0) ≡ no_rules
  empty_rules = fun_ext (λ k. ap (λ (b : Bool). pick b (rule (rule_at (view zeros) ((view zeros).place k))) nothing) (not_held k))
    where
      not_held : (k : ℕ) → held_at (view zeros) k ≡ false
      not_held k =
          ap (λ (b : Bool). both (ltb ((view zeros).place k) rules_limit) (both b (eqb (number (view zeros) ((view zeros).place k)) k)))
          (none.0 (nodes_limit + (view zeros).place k))
          ∙ both_false (ltb ((view zeros).place k) rules_limit)

-- ---- one set of rules, within the limits

pub record Limited (rules : Rules) : Type 0 where
  pub few : rule_count rules ≤ rules_limit
  pub nodes : nodes_of rules ≤ nodes_limit
  pub numbers : (k : ℕ) (r : Rule) → rules k ≡ rule r → k < rule_numbers
  pub whole : (k : ℕ) (r : Rule) → rules k ≡ rule r → IsTerm r.term

-- The used nodes and the different beginnings of blank forms go together one by one.
pub record Nodes (ws : List ℕ) : Type 0 where
  pub row : (n : ℕ) → n < nodes_limit → Used (view ws).tree n → (r : List ℕ) × Up (view ws).tree (suc n) r × Begins (reverse r) (map form_of (terms (rules_in ws)))
  pub one_row : (n : ℕ) (r s : List ℕ) → Up (view ws).tree (suc n) r → Up (view ws).tree (suc n) s → r ≡ s
  pub node : (r : List ℕ) → Begins (reverse r) (map form_of (terms (rules_in ws))) → (n : ℕ) × (n < nodes_limit) × Up (view ws).tree (suc n) r
  pub one_node : (m n : ℕ) (r : List ℕ) → Up (view ws).tree (suc m) r → Up (view ws).tree (suc n) r → m ≡ n

module _ (ws : List ℕ) (p : Passing ws) where
  long : length (take tree_words ws) ≡ tree_words
  long = omega (arith, length-take tree_words ws, p.size)

  low : (n : ℕ) → Used (view ws).tree n → n < last_link
  low = used_low (take tree_words ws) long

  pub limited : Limited (rules_in ws)
  limited = record {
    few = omega (arith, count_tally (rules_in ws), rules_tally (view ws) low p.right, tally_le (taken (view ws)) rules_limit);
    nodes = omega (arith, nodes_tally (view ws) low p.right, tally_le (view ws).tree.used nodes_limit);
    numbers = number_low (view ws) low p.right;
    whole = whole;
  }
    where
      whole : (k : ℕ) (r : Rule) → rules_in ws k ≡ rule r → IsTerm r.term
      whole k r e =
          let a = holds_at (view ws) k r e in
          let c = p.right.records a.place a.used in
          subst IsTerm (append-nil _ ∙ ap (λ (x : Rule). x.term) a.is) (whole_alone ((view ws).cells a.place) [] ((view ws).size a.place) c.whole
          ∙ ap Ok (sym (term_size (view ws) low p.right a.place a.used) ∙ ap length (sym (append-nil (term (view ws) a.place)))))

  begins : {q : List ℕ} {fs gs : List (List ℕ)} → ((f : List ℕ) → Memᴰ f fs → Memᴰ f gs) → Begins q fs → Begins q gs
  begins h b = record { form = b.form; among = h b.form b.among; rest = b.rest; is = b.is; not_empty = b.not_empty }

  by : Numbered (view ws).tree (bases (leaves (view ws)))
  by = numbered (hanging (view ws) low p.right)

  pub its_nodes : Nodes ws
  its_nodes = record {
    row = λ n l u. let r = by.tree.rooted n u in (r.0, r.1, begins (λ f. (base_forms (view ws) low p.right f).0) (by.begins n r.0 l r.1));
    one_row = λ n r s x y. up_same x y;
    node = λ r b. by.node r (begins (λ f. (base_forms (view ws) low p.right f).1) b);
    one_node = λ m n r x y. let e = up_one by.tree x y in omega arith;
  }

  -- the nodes in use are as many as the node count says
  pub nodes_in_use : tally (view ws).tree.used nodes_limit ≡ nodes_of (rules_in ws)
  nodes_in_use = sym (nodes_tally (view ws) low p.right)

  -- the count of set bits is the node count
  pub bits_set : sum (bits (node_map (take tree_words ws))) ≡ nodes_of (rules_in ws)
  bits_set = nodes_held (take tree_words ws) long ∙ nodes_in_use

-- ---- one outcome

pub empties_once : (ws a b : List ℕ) (r s : ℕ) → Empties ws a r → Empties ws b s → (r ≡ s) × (a ≡ b)
empties_once ws a b r s x y = go (ℕ_discrete (length ws) book_words)
  where
    go : Dec (length ws ≡ book_words) → (r ≡ s) × (a ≡ b)
    go (yes e) = ((x.made e).0 ∙ sym (y.made e).0, (x.made e).1 ∙ sym (y.made e).1)
    go (no n) = ((x.refused n).0 ∙ sym (y.refused n).0, (x.refused n).1 ∙ sym (y.refused n).1)

-- ---- the set of rules alone

module _ (ws vs : List ℕ) (same : rules_in ws ≡ rules_in vs) where
  pub shows_alike : (k : ℕ) (it it' : Option Shown) → Shows ws k it → Shows vs k it' → it ≡ it'
  shows_alike k it it' x y = x ∙ ap (λ (z : Rules). shown (z k)) same ∙ sym y

  pub counts_alike : (rules rules' nodes nodes' : ℕ) → Counts ws rules nodes → Counts vs rules' nodes' → (rules ≡ rules') × (nodes ≡ nodes')
  counts_alike rules rules' nodes nodes' x y = (x.rules_are ∙ ap rule_count same ∙ sym y.rules_are, x.nodes_are ∙ ap nodes_of same ∙ sym y.nodes_are)
