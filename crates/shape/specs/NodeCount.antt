-- The nodes below 4,096 are as many as the different non-empty beginnings of some forms, where each such node has one of them and each
-- of them has such a node
use Rattle.std.specs.Prelude.{◌≡◌, ◌⊎◌, ◌↔◌, ℕ, suc, ◌+◌, ◌≤◌, ◌<◌}
use Rattle.std.proofs.Math.Path.{refl, sym, ap, ap₂, subst}
use Rattle.std.proofs.Common.{◌∙◌, inl, inr, arith}
use mathlib.Core.List.{List, [], ◌∷◌, ◌++◌, map, append_assoc, reverse, reverse-cons, reverse-append, reverse-reverse, Memᴰ}
use mathlib.Core.List.Memᴰ
use mathlib.Core.List.{head-eq_of_cons-eq, tail-eq_of_cons-eq, append_cancel_left}
use Rattle.std.proofs.Math.Dec.{eqb}
use Rattle.std.proofs.Math.ListN.{length, length-append, length-map}
use Rattle.std.proofs.Math.Nat.{suc_inj}
use borrow.Author.Tests.{eqb-true}
use Rattle.layout.specs.Layout.{nodes_limit}
use Rattle.term.specs.Beginnings.{Begins, Distinct, inits, nodes}
use Rattle.term.specs.Distinct.{distinct_append, distinct_map}
use Rattle.term.specs.Counting.{cons_eq, nodes_of_rules, of_beginnings, to_beginnings, inits_distinct, inits_length}
use Rattle.shape.specs.Basics.{eqb_exact, up_used}
use Rattle.shape.specs.Shape.{Shape, Used, Up, down, Tree}
use Rattle.shape.specs.Rows.{up_one, row_of, row_is, row_on}
use Rattle.shape.specs.Tally.{tally}
use Rattle.shape.specs.Tallies.{listed, length_listed, of_listed, to_listed, listed_distinct}

-- cells are numbers, compared as such
abbrev pub node_count_is : List (List ℕ) → ℕ
node_count_is fs = nodes eqb fs

-- the rows of the nodes below 4,096 are the non-empty beginnings of the forms fs, read backwards, and no row is longer than 33
pub record Numbered (m : Shape) (fs : List (List ℕ)) : Type 0 where
  pub tree : Tree m
  pub short : (n : ℕ) (r : List ℕ) → Up m (suc n) r → length r ≤ 33
  pub begins : (n : ℕ) (r : List ℕ) → n < nodes_limit → Up m (suc n) r → Begins (reverse r) fs
  pub node : (r : List ℕ) → Begins (reverse r) fs → (n : ℕ) × (n < nodes_limit) × Up m (suc n) r

of_inits : (f : List ℕ) {p : List ℕ} → Memᴰ p (inits f) → (¬ (p ≡ [])) × ((s : List ℕ) × (p ++ s ≡ f))
of_inits f i = let b = of_beginnings (f ∷ []) (Memᴰ.append_left [] i) in (b.not_empty, (b.rest, b.is ∙ Memᴰ.eq_of_singleton b.among))

to_inits : (f p s : List ℕ) → ¬ (p ≡ []) → p ++ s ≡ f → Memᴰ p (inits f)
to_inits f p s h e = go (Memᴰ.append_cases (inits f) (to_beginnings (f ∷ []) p (record { form = f; among = Memᴰ.head refl; rest = s; is = e; not_empty = h })))
  where
    go : Memᴰ p (inits f) ⊎ Memᴰ p [] → Memᴰ p (inits f)
    go (inl i) = i
    go (inr i) = absurd (Memᴰ.not-nil i)

-- a beginning of s ++ t is one of s, or s and one of t
data Cut (p s t : List ℕ) : Type 0 where
  inside : (u : List ℕ) → p ++ u ≡ s → Cut p s t
  past : (c : ℕ) (u v : List ℕ) → p ≡ s ++ c ∷ u → c ∷ (u ++ v) ≡ t → Cut p s t

cut : (p s t r : List ℕ) → p ++ r ≡ s ++ t → Cut p s t
cut [] s t r e = inside s refl
cut (c ∷ p) [] t r e = past c p r refl e
cut (c ∷ p) (d ∷ s) t r e = go (cut p s t r (tail-eq_of_cons-eq e))
  where
    go : Cut p s t → Cut (c ∷ p) (d ∷ s) t
    go (inside u q) = inside u (cons_eq (head-eq_of_cons-eq e) q)
    go (past b u v q w) = past b u v (cons_eq (head-eq_of_cons-eq e) q) w

module _ (m : Shape) (fs : List (List ℕ)) (h : Numbered m fs) where
  -- a node's row, read forwards
  prefix : ℕ → List ℕ
  prefix n = reverse (row_of m 33 (suc n))

  prefix_is : (n : ℕ) (r : List ℕ) → Up m (suc n) r → prefix n ≡ reverse r
  unfolding prefix
  prefix_is n r x = ap reverse (row_is 33 x (h.short n r x))

  prefix_row : (n : ℕ) (r : List ℕ) → Up m (suc n) r → r ≡ reverse (prefix n)
  prefix_row n r x = sym (reverse-reverse r) ∙ ap reverse (sym (prefix_is n r x))

  one_prefix : (k n : ℕ) → Used m k → Used m n → prefix k ≡ prefix n → k ≡ n
  one_prefix k n u v e =
      let a = h.tree.rooted k u in let b = h.tree.rooted n v in
      let same : a.0 ≡ b.0 = prefix_row k a.0 a.1 ∙ ap reverse e ∙ sym (prefix_row n b.0 b.1) in
      suc_inj (up_one h.tree a.1 (subst (λ (z : List ℕ). Up m (suc n) z) (sym same) b.1))

  prefixes : List (List ℕ)
  prefixes = map prefix (listed m.used nodes_limit)

  to_prefixes : (n : ℕ) (r : List ℕ) → n < nodes_limit → Up m (suc n) r → Memᴰ (reverse r) prefixes
  unfolding prefixes
  to_prefixes n r l x = Memᴰ.cast (sym (prefix_is n r x)) (Memᴰ.map prefix (to_listed m.used nodes_limit n (up_used x) l))

  of_prefixes : {p : List ℕ} → Memᴰ p prefixes → (n : ℕ) × (n < nodes_limit) × Up m (suc n) (reverse p)
  unfolding prefixes
  of_prefixes {p} i =
      let q = Memᴰ.of_map prefix (listed m.used nodes_limit) i in
      let o = of_listed m.used nodes_limit q.1 in
      let r = h.tree.rooted q.0 o.0 in
      (q.0, o.1, subst (λ (z : List ℕ). Up m (suc q.0) z) (prefix_row q.0 r.0 r.1 ∙ ap reverse q.2) r.1)

  prefixes_begin : (p : List ℕ) → Memᴰ p prefixes ↔ Begins p fs
  prefixes_begin p = (
    (λ i. let q = of_prefixes i in subst (λ (z : List ℕ). Begins z fs) (reverse-reverse p) (h.begins q.0 (reverse p) q.1 q.2)),
    (λ b. let q = h.node (reverse p) (subst (λ (z : List ℕ). Begins z fs) (sym (reverse-reverse p)) b) in
        Memᴰ.cast (sym (reverse-reverse p)) (to_prefixes q.0 (reverse p) q.1 q.2)),
  )

  prefixes_distinct : Distinct prefixes
  unfolding prefixes
  prefixes_distinct = distinct_map prefix (listed m.used nodes_limit) (listed_distinct m.used nodes_limit)
      (λ k n i j e. one_prefix k n (of_listed m.used nodes_limit i).0 (of_listed m.used nodes_limit j).0 e)

  prefixes_length : length prefixes ≡ tally m.used nodes_limit
  unfolding prefixes
  prefixes_length = length-map (listed m.used nodes_limit) prefix ∙ length_listed m.used nodes_limit

  pub nodes_are : node_count_is fs ≡ tally m.used nodes_limit
  nodes_are = sym (nodes_of_rules eqb eqb-true eqb_exact fs prefixes prefixes_distinct prefixes_begin) ∙ prefixes_length

  -- With one form more: s is the longest beginning of it that has nodes, all below 4,096, down to the link l, and t is what is missing
  module _ (new : List (List ℕ)) (x : List ℕ) (of : (f : List ℕ) → Memᴰ f new → (f ≡ x) ⊎ Memᴰ f fs)
      (kept : (f : List ℕ) → Memᴰ f fs → Memᴰ f new) (joined : Memᴰ x new)
      (s t : List ℕ) (l : ℕ) (form : x ≡ s ++ t) (at : Up m l (reverse s))
      (below : (n : ℕ) (p u : List ℕ) → p ++ u ≡ s → Up m (suc n) (reverse p) → n < nodes_limit)
      (absent : (d : ℕ) (u : List ℕ) → t ≡ d ∷ u → (n : ℕ) → Used m n → m.parent n ≡ l → ¬ (m.cell n ≡ d)) where
    extra : List (List ℕ)
    extra = map (λ u. s ++ u) (inits t)

    no_node : (d : ℕ) (u : List ℕ) → t ≡ d ∷ u → {n : ℕ} → ¬ (Up m (suc n) (d ∷ reverse s))
    no_node d u e (down {n = n} v q y) = absent d u e n v (up_one h.tree y at) q

    apart : (p : List ℕ) → Memᴰ p prefixes → Memᴰ p extra → ⊥
    unfolding extra
    apart p i k =
        let w = Memᴰ.of_map (λ u. s ++ u) (inits t) k in
        let b = of_inits t w.1 in
        let q = of_prefixes i in
        go w.0 b.0 b.1.0 b.1.1 (subst (λ (z : List ℕ). Up m (suc q.0) (reverse z)) (sym w.2) q.2)
      where
        go : {n : ℕ} (u : List ℕ) → ¬ (u ≡ []) → (v : List ℕ) → u ++ v ≡ t → Up m (suc n) (reverse (s ++ u)) → ⊥
        go [] h v e y = h refl
        go {n} (d ∷ u) h v e y =
            let split : reverse (s ++ d ∷ u) ≡ reverse u ++ (d ∷ reverse s) =
            reverse-append s (d ∷ u) ∙ ap (λ (z : List ℕ). z ++ reverse s) (reverse-cons d u) ∙ append_assoc (reverse u) (d ∷ []) (reverse s) in
            let k = row_on (reverse u) (subst (λ (z : List ℕ). Up m (suc n) z) split y) in
            no_node d (u ++ v) (sym e) k.1

    -- a beginning of s has a node
    held : (p u : List ℕ) → ¬ (p ≡ []) → p ++ u ≡ s → Memᴰ p prefixes
    held p u ne e = go (reverse p) refl
      where
        go : (r : List ℕ) → reverse p ≡ r → Memᴰ p prefixes
        go [] q = absurd (ne (sym (reverse-reverse p) ∙ ap reverse q))
        go (d ∷ r) q =
            let split : reverse s ≡ reverse u ++ d ∷ r = ap reverse (sym e) ∙ reverse-append p u ∙ ap (λ (z : List ℕ). reverse u ++ z) q in
            let k = row_on (reverse u) (subst (λ (z : List ℕ). Up m l z) split at) in
            let lo = below k.0 p u e (subst (λ (z : List ℕ). Up m (suc k.0) z) (sym q) k.1) in
            Memᴰ.cast (sym (reverse-reverse p) ∙ ap reverse q) (to_prefixes k.0 (d ∷ r) lo k.1)

    into : (p : List ℕ) → Begins p new → Memᴰ p (prefixes ++ extra)
    unfolding extra
    into p b = go (of b.form b.among)
      where
        two : Cut p s t → Memᴰ p (prefixes ++ extra)
        two (inside u e) = Memᴰ.append_left extra (held p u b.not_empty e)
        two (past d u v e w) = Memᴰ.append_right prefixes (Memᴰ.cast e (Memᴰ.map (λ z. s ++ z) (to_inits t (d ∷ u) v (λ q. absurd (omega (arith, ap length q))) w)))

        go : (b.form ≡ x) ⊎ Memᴰ b.form fs → Memᴰ p (prefixes ++ extra)
        go (inl e) = two (cut p s t b.rest (b.is ∙ e ∙ form))
        go (inr k) = Memᴰ.append_left extra ((prefixes_begin p).1 (record { form = b.form; among = k; rest = b.rest; is = b.is; not_empty = b.not_empty }))

    nil_right : (s : List ℕ) {u : List ℕ} → s ++ u ≡ [] → u ≡ []
    nil_right [] e = e
    nil_right (d ∷ s) e = absurd (omega (arith, ap length e))

    back : (p : List ℕ) → Memᴰ p (prefixes ++ extra) → Begins p new
    unfolding extra
    back p i = go (Memᴰ.append_cases prefixes i)
      where
        go : Memᴰ p prefixes ⊎ Memᴰ p extra → Begins p new
        go (inl k) = let b = (prefixes_begin p).0 k in record { form = b.form; among = kept b.form b.among; rest = b.rest; is = b.is; not_empty = b.not_empty }
        go (inr k) =
            let w = Memᴰ.of_map (λ u. s ++ u) (inits t) k in
            let b = of_inits t w.1 in
            record {
              form = x;
              among = joined;
              rest = b.1.0;
              not_empty = λ e. b.0 (nil_right s (w.2 ∙ e));
              is = ap (λ (z : List ℕ). z ++ b.1.0) (sym w.2) ∙ append_assoc s w.0 b.1.0 ∙ ap (λ (z : List ℕ). s ++ z) b.1.1 ∙ sym form;
            }

    pub nodes_more : node_count_is new ≡ tally m.used nodes_limit + length t
    unfolding extra
    nodes_more =
        sym (nodes_of_rules eqb eqb-true eqb_exact new (prefixes ++ extra)
        (distinct_append prefixes extra prefixes_distinct (distinct_map (λ u. s ++ u) (inits t) (inits_distinct t) (λ a b i k e. append_cancel_left s a b e)) apart)
        (λ p. (back p, into p)))
        ∙ length-append prefixes extra ∙ ap₂ (λ (a b : ℕ). a + b) prefixes_length (length-map (inits t) (λ u. s ++ u) ∙ inits_length t)
