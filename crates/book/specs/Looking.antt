-- What the code reads of memory is what the view says.
use Rattle.std.specs.Prelude.{◌≡◌, refl, List, Bool, true, false, ℕ, suc, ◌+◌, ◌≤◌, ◌<◌, eqb, ltb, length, get_or, take, drop, Some, None}
use Rattle.std.proofs.Common.{sym, ap, ap₂, ◌∙◌, subst, arith, lt-ltb, le-ltb, eq-eqb, ne_eqb, length-take, length-drop, ext_get_or, get_or-take, get_or-drop}
use Rattle.deciding.specs.Deciding.{both}
use Rattle.layout.specs.Layout.{node_map_words, rule_map_words, nodes_limit, rules_limit, rule_map_at, links_at, rules_at, last_link, tree_words, book_words}
use Rattle.bits.specs.Packed.{bits, sum}
use Rattle.links.specs.Words.{cell_of}
use Rattle.shape.specs.Tally.{marked}
use Rattle.links.specs.Limits.{rule_bit, nodes_held, rules_held, used_low}
use Rattle.shape.specs.Shape.{Used}
use Rattle.book.specs.Memory.{view, taken, number, held_at, Passing, rules_in}
use Rattle.book.specs.Holding.{rules_tally, nodes_tally, count_tally}
use Rattle.book.specs.Promises.{place_of, Counts}

-- a window inside the tree's words
pub inside : (ws : List ℕ) (b n : ℕ) → b + n ≤ tree_words → take n (drop b (take tree_words ws)) ≡ take n (drop b ws)
inside ws b n h = ext_get_or 0 (take n (drop b (take tree_words ws))) (take n (drop b ws)) long same
  where
    long : length (take n (drop b (take tree_words ws))) ≡ length (take n (drop b ws))
    long = omega (
      arith,
      length-take n (drop b (take tree_words ws)),
      length-drop b (take tree_words ws),
      length-take tree_words ws,
      length-take n
          (drop b ws),
      length-drop b ws,
    )

    same : (i : ℕ) → i < length (take n (drop b (take tree_words ws))) → get_or (take n (drop b (take tree_words ws))) i 0 ≡ get_or (take n (drop b ws)) i 0
    same i l =
        let k : i < n = omega (arith, length-take n (drop b (take tree_words ws))) in
        get_or-take n (drop b (take tree_words ws)) i 0 k ∙ get_or-drop b (take tree_words ws) i 0 ∙ get_or-take tree_words ws (b + i) 0 (omega arith)
        ∙ sym (get_or-take n (drop b ws) i 0 k ∙ get_or-drop b ws i 0)

pub rule_taken : (ws : List ℕ) (r : ℕ) → r < rules_limit → eqb (get_or (bits (take rule_map_words (drop rule_map_at ws))) r 0) 1 ≡ taken (view ws) r
rule_taken ws r h = ap (λ (m : List ℕ). marked m r) (sym (inside ws rule_map_at rule_map_words (omega arith))) ∙ rule_bit (take tree_words ws) r h

pub rule_number : (ws : List ℕ) (r : ℕ) → r < rules_limit → cell_of (get_or ws (rules_at + r) 0) ≡ number (view ws) r
rule_number ws r h =
    let e : rules_at + r ≡ links_at + suc (nodes_limit + r) = omega arith in
    ap cell_of (ap (λ (k : ℕ). get_or ws k 0) e ∙ sym (get_or-take tree_words ws (links_at + suc (nodes_limit + r)) 0 (omega arith)))

-- the tree's part is as long as it should be, and so its nodes are low
pub tree_long : (ws : List ℕ) → length ws ≡ book_words → length (take tree_words ws) ≡ tree_words
tree_long ws size = omega (arith, length-take tree_words ws)

pub nodes_low : (ws : List ℕ) → length ws ≡ book_words → (n : ℕ) → Used (view ws).tree n → n < last_link
nodes_low ws size n u = used_low (take tree_words ws) (tree_long ws size) n u

-- a number is held where its place is taken by a rule of that number: the three tests, each as it is read
module _ (ws : List ℕ) (k r : ℕ) (e : r ≡ (view ws).place k) where
  held_is : (a b c : Bool) → ltb ((view ws).place k) rules_limit ≡ a → taken (view ws) ((view ws).place k) ≡ b → eqb (number (view ws) ((view ws).place k)) k ≡ c
      → both a (both b c) ≡ held_at (view ws) k
  held_is a b c f g h = sym (ap₂ both f (ap₂ both g h))

  pub too_high : rules_limit ≤ r → false ≡ held_at (view ws) k
  too_high h = held_is false (taken (view ws) ((view ws).place k)) (eqb (number (view ws) ((view ws).place k)) k)
      (le-ltb ((view ws).place k) rules_limit (subst (λ (z : ℕ). rules_limit ≤ z) e h)) refl refl

  module _ (h : r < rules_limit) (b : Bool) (f : b ≡ eqb (get_or (bits (take rule_map_words (drop rule_map_at ws))) r 0) 1) where
    low : ltb ((view ws).place k) rules_limit ≡ true
    low = lt-ltb ((view ws).place k) rules_limit (subst (λ (z : ℕ). z < rules_limit) e h)

    is_taken : taken (view ws) ((view ws).place k) ≡ b
    is_taken = ap (taken (view ws)) (sym e) ∙ sym (rule_taken ws r h) ∙ sym f

    pub not_taken : b ≡ false → false ≡ held_at (view ws) k
    not_taken q = held_is true false (eqb (number (view ws) ((view ws).place k)) k) low (is_taken ∙ q) refl

    pub same_number : b ≡ true → (c n : ℕ) → c ≡ cell_of (get_or ws (rules_at + r) 0) → n ≡ k → eqb c n ≡ held_at (view ws) k
    same_number q c n g s = held_is true true (eqb c n) low (is_taken ∙ q)
        (ap₂ eqb (ap (number (view ws)) (sym e) ∙ sym (rule_number ws r h) ∙ sym g) (sym s))

    pub other_number : b ≡ true → (c : ℕ) → c ≡ cell_of (get_or ws (rules_at + r) 0) → ¬ (c ≡ k) → place_of (view ws) k ≡ None
    other_number q c g d = rw (sym (same_number q c k g refl) ∙ ne_eqb c k d) refl

    pub found : b ≡ true → (c : ℕ) → c ≡ cell_of (get_or ws (rules_at + r) 0) → c ≡ k → place_of (view ws) k ≡ Some r
    found q c g d = rw (sym (same_number q c k g refl) ∙ eq-eqb c k d) (ap Some (sym e))

-- the two counts
pub counted : (ws : List ℕ) (rules nodes : ℕ) → Passing ws → nodes ≡ sum (bits (take node_map_words ws))
    → rules ≡ sum (bits (take rule_map_words (drop rule_map_at ws))) → Counts ws rules nodes
counted ws rules nodes p e f = record {
  rules_are =
      f ∙ ap (λ (m : List ℕ). sum (bits m)) (sym (inside ws rule_map_at rule_map_words (omega arith))) ∙ rules_held (take tree_words ws) (tree_long ws p.size)
      ∙ sym (rules_tally (view ws) (nodes_low ws p.size) p.right) ∙ sym (count_tally (rules_in ws));
  nodes_are =
      e ∙ ap (λ (m : List ℕ). sum (bits m)) (sym (inside ws 0 node_map_words (omega arith))) ∙ nodes_held (take tree_words ws) (tree_long ws p.size)
      ∙ sym (nodes_tally (view ws) (nodes_low ws p.size) p.right);
}
