-- A view that is right holds exactly one set of rules, and its tree and maps have exactly the nodes and the rules of that set.
use Rattle.std.specs.Prelude.{◌≡◌, refl, ◌↔◌, Bool, true, false, ℕ, zero, suc, ◌+◌, ◌-◌, ◌≤◌, ◌<◌, eqb, ltb, length}
use Rattle.std.proofs.Common.{sym, ap, ap₂, ◌∙◌, subst, arith, lt-ltb, ltb-true, eqb-true, length-append, length-take}
use mathlib.Core.List.Memᴰ
use mathlib.Core.List.{List, [], ◌++◌, map, Memᴰ}
use Rattle.std.proofs.lemmas.List.{length-map}
use Rattle.deciding.specs.Deciding.{pick, both, of_both, to_both, true_not_false}
use Rattle.layout.specs.Layout.{rule_numbers, nodes_limit, rules_limit, last_link}
use Rattle.term.specs.Distinct.{as_many, distinct_map}
use Rattle.term.specs.Counting.{nodes_same}
use Rattle.term.specs.Whole.{TermAt, whole_term}
use Rattle.shape.specs.Basics.{eqb_exact}
use Rattle.shape.specs.Shape.{Used, End}
use Rattle.shape.specs.Tally.{tally}
use Rattle.shape.specs.Tallies.{listed, length_listed, of_listed, to_listed, listed_distinct}
use Rattle.shape.specs.Leaves.{Leaf, end_of, ends, bases, Hanging, numbered}
use Rattle.shape.specs.NodeCount.{nodes_are}
use Rattle.book.specs.Rules.{Rule, Held, nothing, rule, Rules, is_held, terms_of, each, terms, rule_count, nodes_of}
use Rattle.book.specs.Gathered.{terms_standing, rule_inj, not_rule}
use Rattle.book.specs.Memory.{View, taken, number, term, rule_at, form_of, leaf, leaves, held_at, rules_of, Right}
use Rattle.book.specs.Forms.{form_free, count_forms}

-- The end of the rule at a place.
abbrev pub end_at : View → ℕ → End
end_at v r = end_of (leaf v r)

-- The ends of all places that pass a test: which ends stand in the list.
pub of_ends : (v : View) (u : ℕ → Bool) {y : End} → Memᴰ y (ends (map (leaf v) (listed u rules_limit))) → (r : ℕ) × (u r ≡ true) × (r < rules_limit) × (end_at v r ≡ y)
of_ends v u i =
    let a = Memᴰ.of_map end_of (map (leaf v) (listed u rules_limit)) i in
    let b = Memᴰ.of_map (leaf v) (listed u rules_limit) a.1 in
    let c = of_listed u rules_limit b.1 in
    (b.0, c.0, c.1, ap end_of b.2 ∙ a.2)

pub to_ends : (v : View) (u : ℕ → Bool) (r : ℕ) → u r ≡ true → r < rules_limit → Memᴰ (end_at v r) (ends (map (leaf v) (listed u rules_limit)))
to_ends v u r e l = Memᴰ.map end_of (Memᴰ.map (leaf v) (to_listed u rules_limit r e l))

-- The rule r under the number k, at its place.
pub record At (v : View) (k : ℕ) (r : Rule) : Type 0 where
  pub place : ℕ
  pub low : place < rules_limit
  pub used : taken v place ≡ true
  pub has : number v place ≡ k
  pub is : rule_at v place ≡ r

pub holds_at : (v : View) (k : ℕ) (r : Rule) → rules_of v k ≡ rule r → At v k r
holds_at v k r e = go (held_at v k) refl e
  where
    go : (b : Bool) → held_at v k ≡ b → pick b (rule (rule_at v (v.place k))) nothing ≡ rule r → At v k r
    go true q e =
        let a = of_both (ltb (v.place k) rules_limit) (both (taken v (v.place k)) (eqb (number v (v.place k)) k)) q in
        let b = of_both (taken v (v.place k)) (eqb (number v (v.place k)) k) a.1 in
        record { place = v.place k; low = ltb-true (v.place k) rules_limit a.0; used = b.0; has = eqb-true (number v (v.place k)) k b.1; is = rule_inj e }
    go false q e = absurd (not_rule e)

module _ (v : View) (small : (n : ℕ) → Used v.tree n → n < last_link) (right : Right v) where
  place_low : (r : ℕ) → taken v r ≡ true → r < rules_limit
  place_low r u = let l = small (nodes_limit + r) u in omega arith

  pub term_stands_at : (r : ℕ) → taken v r ≡ true → TermAt (v.cells r) (v.size r)
  term_stands_at r u = whole_term (v.cells r) (v.size r) (right.records r u).whole

  pub term_size : (r : ℕ) → taken v r ≡ true → length (term v r) ≡ v.size r
  term_size r u = omega (arith, length-take (v.size r) (v.cells r), (term_stands_at r u).inside)

  leaf_taken : {x : Leaf} → Memᴰ x (leaves v) → (r : ℕ) × (taken v r ≡ true) × (leaf v r ≡ x)
  leaf_taken i = let q = Memᴰ.of_map (leaf v) (listed (taken v) rules_limit) i in (q.0, (of_listed (taken v) rules_limit q.1).0, q.2)

  pub taken_leaf : (r : ℕ) → taken v r ≡ true → Memᴰ (leaf v r) (leaves v)
  taken_leaf r u = Memᴰ.map (leaf v) (to_listed (taken v) rules_limit r u (place_low r u))

  -- the rules hang in the tree
  pub hanging : Hanging v.tree (leaves v)
  hanging = record { passes = right.tree; all = all; free = free; few = few }
    where
      all : (n : ℕ) → nodes_limit ≤ n → Used v.tree n → (x : Leaf) × Memᴰ x (leaves v) × (nodes_limit + x.slot ≡ n)
      all n h u =
          let e : n ≡ nodes_limit + (n - nodes_limit) = omega arith in
          let w : taken v (n - nodes_limit) ≡ true = ap v.tree.used (sym e) ∙ u in
          (leaf v (n - nodes_limit), taken_leaf (n - nodes_limit) w, sym e)

      free : (x y : Leaf) → Memᴰ x (leaves v) → Memᴰ y (leaves v) → (s : List ℕ) → x.form ++ s ≡ y.form → s ≡ []
      free x y i j s e =
          let a = leaf_taken i in let b = leaf_taken j in
          form_free (term v a.0) (term v b.0) (term_stands_at a.0 a.1).form (term_stands_at b.0 b.1).form s
          (ap (λ (z : Leaf). z.form ++ s) a.2 ∙ e ∙ sym (ap (λ (z : Leaf). z.form) b.2))

      few : (x : Leaf) → Memᴰ x (leaves v) → length x.form ≤ 32
      few x i =
          let a = leaf_taken i in
          let e : length x.form ≡ v.size a.0 = sym (ap (λ (z : Leaf). length z.form) a.2) ∙ length-map (term v a.0) _ ∙ term_size a.0 a.1 in
          omega (arith, (term_stands_at a.0 a.1).short)

  -- each place that is taken has its number's rule
  pub at_holds : (r : ℕ) → taken v r ≡ true → rules_of v (number v r) ≡ rule (rule_at v r)
  at_holds r u =
      let p : v.place (number v r) ≡ r = (right.records r u).found in
      let h : held_at v (number v r) ≡ true = ap (λ (z : ℕ). both (ltb z rules_limit) (both (taken v z) (eqb (number v z) (number v r)))) p
      ∙ to_both (ltb r rules_limit) (both (taken v r) (eqb (number v r) (number v r))) (lt-ltb r rules_limit (place_low r u))
      (to_both (taken v r) (eqb (number v r) (number v r)) u (eqb_exact (number v r))) in
      ap₂ (λ (b : Bool) (z : ℕ). pick b (rule (rule_at v z)) nothing) h p

  -- one place for one number
  pub one_place : (r s : ℕ) → taken v r ≡ true → taken v s ≡ true → number v r ≡ number v s → r ≡ s
  one_place r s u w e = sym (right.records r u).found ∙ ap v.place e ∙ (right.records s w).found

  pub number_low : (k : ℕ) (r : Rule) → rules_of v k ≡ rule r → k < rule_numbers
  number_low k r e = let a = holds_at v k r e in subst (λ (z : ℕ). z < rule_numbers) a.has (right.records a.place a.used).low

  -- as many rules as places taken
  held_true : (h : Held) → is_held h ≡ true → (r : Rule) × (h ≡ rule r)
  held_true nothing e = absurd (true_not_false e refl)
  held_true (rule r) e = (r, refl)

  pub rules_tally : tally (λ k. is_held (rules_of v k)) rule_numbers ≡ tally (taken v) rules_limit
  rules_tally =
      sym (length_listed (λ k. is_held (rules_of v k)) rule_numbers)
      ∙ as_many (listed (λ k. is_held (rules_of v k)) rule_numbers) (map (number v) (listed (taken v) rules_limit))
      (listed_distinct (λ k. is_held (rules_of v k)) rule_numbers)
      (distinct_map (number v) (listed (taken v) rules_limit) (listed_distinct (taken v) rules_limit)
      (λ r s i j e. one_place r s (of_listed (taken v) rules_limit i).0 (of_listed (taken v) rules_limit j).0 e))
      (λ k i. let q = of_listed (λ j. is_held (rules_of v j)) rule_numbers i in
      let t = held_true (rules_of v k) q.0 in
      let a = holds_at v k t.0 t.1 in
      Memᴰ.cast (sym a.has) (Memᴰ.map (number v) (to_listed (taken v) rules_limit a.place a.used a.low)))
      (λ k i. let q = Memᴰ.of_map (number v) (listed (taken v) rules_limit) i in
      let u = (of_listed (taken v) rules_limit q.1).0 in
      to_listed (λ j. is_held (rules_of v j)) rule_numbers k (ap (λ (z : ℕ). is_held (rules_of v z)) (sym q.2) ∙ ap is_held (at_holds q.0 u))
      (subst (λ (z : ℕ). z < rule_numbers) q.2 (right.records q.0 u).low))
      ∙ length-map (listed (taken v) rules_limit) (number v) ∙ length_listed (taken v) rules_limit

  -- the forms that hang are those of the rules
  pub base_forms : (f : List ℕ) → Memᴰ f (bases (leaves v)) ↔ Memᴰ f (map form_of (terms (rules_of v)))
  base_forms f = (to, of)
    where
      to : Memᴰ f (bases (leaves v)) → Memᴰ f (map form_of (terms (rules_of v)))
      to i =
          let q = Memᴰ.of_map (λ (x : Leaf). x.form) (leaves v) i in
          let a = leaf_taken q.1 in
          Memᴰ.cast (sym (ap (λ (x : Leaf). x.form) a.2 ∙ q.2))
          (Memᴰ.map form_of ((terms_standing (rules_of v) (term v a.0)).1
          (record { number = number v a.0; low = (right.records a.0 a.1).low; its = rule_at v a.0; is = at_holds a.0 a.1; term_is = refl })))

      of : Memᴰ f (map form_of (terms (rules_of v))) → Memᴰ f (bases (leaves v))
      of i =
          let q = Memᴰ.of_map form_of (terms (rules_of v)) i in
          let s = (terms_standing (rules_of v) q.0).0 q.1 in
          let a = holds_at v s.number s.its s.is in
          Memᴰ.cast (sym q.2 ∙ ap form_of (sym (ap (λ (x : Rule). x.term) a.is ∙ s.term_is))) (Memᴰ.map (λ (x : Leaf). x.form) (taken_leaf a.place a.used))

  -- the nodes are those of the rules
  pub nodes_tally : nodes_of (rules_of v) ≡ tally v.tree.used nodes_limit
  nodes_tally =
      count_forms (terms (rules_of v))
      ∙ sym (nodes_same eqb (λ a b e. eqb-true a b e) eqb_exact (bases (leaves v)) (map form_of (terms (rules_of v))) base_forms)
      ∙ nodes_are v.tree (bases (leaves v)) (numbered hanging)

-- the count of some rules, number by number
pub count_tally : (rules : Rules) → rule_count rules ≡ tally (λ k. is_held (rules k)) rule_numbers
unfolding each tally
count_tally rules = go rule_numbers
  where
    f : ℕ → List (List ℕ)
    f k = terms_of (rules k)

    snoc : (n k : ℕ) → each f (suc n) k ≡ each f n k ++ f (k + n)
    snoc zero k = ap (λ (z : ℕ). f z ++ []) (omega arith) ∙ mathlib.Core.List.append-nil (f (k + 0))
    snoc (suc n) k =
        ap (λ (z : List (List ℕ)). f k ++ z) (snoc n (suc k) ∙ ap (λ (z : ℕ). each f n (suc k) ++ f z) (omega arith))
        ∙ sym (mathlib.Core.List.append_assoc (f k) (each f n (suc k)) (f (k + suc n)))

    one : (h : Held) → length (terms_of h) ≡ Rattle.shape.specs.Tally.bit (is_held h)
    one nothing = refl
    one (rule r) = refl

    go : (n : ℕ) → length (each f n 0) ≡ tally (λ k. is_held (rules k)) n
    go zero = refl
    go (suc n) =
        ap length (snoc n 0) ∙ length-append (each f n 0) (f (0 + n))
        ∙ omega (arith, go n, one (rules n), ap (λ (z : ℕ). length (f z)) (native.Mathlib.Nat.zero-add n))
