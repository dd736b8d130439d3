-- What one walk down from the root finds of every node is all that the check asks: a rule's row is that of its record, a node's row wants more
-- cells, and only a rule has nothing below it.
use Rattle.std.specs.Prelude.{◌≡◌, refl, ◌⊎◌, true, ℕ, zero, suc, ◌+◌, ◌-◌, ◌/◌, ◌%◌, ◌≤◌, ◌<◌, length}
use Rattle.std.proofs.Common.{sym, ap, ◌∙◌, subst, inl, inr, arith, length-take, length-append}
use mathlib.Core.List.Memᴰ
use mathlib.Core.List.{List, [], ◌∷◌, ◌++◌, map, reverse, reverse-cons, reverse-append, reverse-reverse, append_assoc, append-nil, Memᴰ}
use Rattle.std.proofs.Math.Decide.{dec_lt}
use Rattle.std.proofs.lemmas.List.{length-map, length-reverse}
use Rattle.layout.specs.Layout.{nodes_limit, rules_limit, last_link}
use Rattle.term.specs.Cells.{Terms, arity, blank_of, blank_form}
use Rattle.term.specs.Beginnings.{Begins}
use Rattle.term.specs.Preorder.{recount, open_row, empty_none}
use Rattle.term.specs.Whole.{whole_term}
use Rattle.shape.specs.Shape.{Shape, Hook, child, after, Used, Valid, to, Up, down, On, here, above, End, Covered, Tree}
use Rattle.shape.specs.Basics.{up_used}
use Rattle.shape.specs.Order.{childless}
use Rattle.shape.specs.Rows.{up_same, passes_tree}
use Rattle.shape.specs.Tallies.{listed, of_listed}
use Rattle.shape.specs.Leaves.{Leaf, end_of, ends, bases, numbered}
use Rattle.shape.specs.Down.{Ended}
use Rattle.shape.specs.Stops.{reach_end}
use Rattle.book.specs.Memory.{View, taken, number, term, form, form_of, blank_number, leaf, leaves, Recorded, Right}
use Rattle.book.specs.Forms.{Side, symbol, variable, side, form_row}
use Rattle.recorded.specs.Way.{wants}
use Rattle.book.specs.Holding.{of_ends, to_ends, hanging, term_stands_at, term_size}

abbrev end_at : View → ℕ → End
end_at v r = end_of (leaf v r)

-- ---- what is found

-- a row without its last cell
abbrev pub behind : List ℕ → List ℕ
behind [] = []
behind (c ∷ p) = p

-- a node of forms with the cell c below the row p
pub record Inner (c : ℕ) (p : List ℕ) : Type 0 where
  pub low : c ≤ 32768
  pub short : length p < 32
  pub wanting : ¬ (wants p ≡ 0)

-- a rule at the place k below the row p
pub record Hangs (v : View) (k : ℕ) (p : List ℕ) : Type 0 where
  pub right : Recorded v k
  pub is : form v k ≡ reverse p

pub record Told (v : View) (n : ℕ) (r : List ℕ) : Type 0 where
  pub node : n < nodes_limit → Inner (v.tree.cell n) (behind r)
  pub rule : (k : ℕ) → n ≡ nodes_limit + k → Hangs v k (behind r)

-- a node has a child, and only a rule has none
abbrev pub Bare : Hook → Type 0
Bare (child zero) = Unit {0}
Bare (child (suc n)) = nodes_limit ≤ n
Bare (after n) = Unit {0}

-- ---- rows and forms

row_long : (r : List ℕ) → length r ≤ suc (length (behind r))
row_long [] = omega arith
row_long (c ∷ p) = omega arith

-- the beginning of a term, read backwards, wants what comes behind it
wants_rest : (p u : List ℕ) → ((c : ℕ) → Memᴰ c p → c ≤ 32768) → Terms 1 (map blank_of (reverse p ++ u)) → Terms (wants p) (map blank_of u)
wants_rest [] u h t = t
wants_rest (c ∷ p) u h t =
    let o = open_row (wants_rest p (c ∷ u) (λ d i. h d (Memᴰ.tail i))
    (subst (λ (z : List ℕ). Terms 1 (map blank_of z)) (ap (λ (z : List ℕ). z ++ u) (reverse-cons c p) ∙ append_assoc (reverse p) (c ∷ []) u) t)) in
    recount (let a = arity_is c (h c (Memᴰ.head refl)) in let i = o.is in count o.count a i) o.forms
  where
    arity_is : (c : ℕ) → c ≤ 32768 → arity (blank_of c) ≡ c / 4096 % 8
    arity_is c h = go (side c)
      where
        go : Side c → arity (blank_of c) ≡ c / 4096 % 8
        go (symbol l e q) = ap arity e ∙ omega arith
        go (variable l e q) = ap arity e ∙ omega arith

    count : {a w : ℕ} (k : ℕ) → a ≡ c / 4096 % 8 → w ≡ suc k → a + k ≡ (c / 4096 % 8 + w) - 1
    count k e i = omega arith

in_reverse : (p : List ℕ) {a : ℕ} → Memᴰ a p → Memᴰ a (reverse p)
in_reverse [] i = absurd (Memᴰ.not-nil i)
in_reverse (d ∷ p) {a} i = subst (λ (z : List ℕ). Memᴰ a z) (sym (reverse-cons d p)) (go (λ j. in_reverse p j) (Memᴰ.cases_cons i))
  where
    go : (Memᴰ a p → Memᴰ a (reverse p)) → (a ≡ d) ⊎ Memᴰ a p → Memᴰ a (reverse p ++ (d ∷ []))
    go ih (inl q) = Memᴰ.append_right (reverse p) (Memᴰ.head q)
    go ih (inr j) = Memᴰ.append_left (d ∷ []) (ih j)

-- a way that comes to a link passes a child of each node before it
way_child : {m : Shape} {n l : ℕ} {r : List ℕ} → On m n l → Up m l r → (l ≡ suc n) ⊎ ((i : ℕ) × Used m i × (m.parent i ≡ suc n))
way_child here x = inl refl
way_child {m} {n} (above {k = k} o) (down u e x) = go (way_child o x)
  where
    go : (m.parent k ≡ suc n) ⊎ ((i : ℕ) × Used m i × (m.parent i ≡ suc n)) → (suc k ≡ suc n) ⊎ ((i : ℕ) × Used m i × (m.parent i ≡ suc n))
    go (inl q) = inr (k, u, q)
    go (inr q) = inr q

form_low : (t : List ℕ) {c : ℕ} → Memᴰ c (form_of t) → c ≤ 32768
form_low t {c} i = let q = Memᴰ.of_map blank_number t i in go q.0 (side q.0) q.2
  where
    go : (x : ℕ) → Side x → blank_number x ≡ c → c ≤ 32768
    go x (symbol l e q) d = omega arith
    go x (variable l e q) d = omega arith

form_long : (v : View) (k : ℕ) → Recorded v k → length (form v k) ≤ 32
form_long v k r = omega (arith, length-map (term v k) blank_number, length-take (v.size k) (v.cells k), (whole_term (v.cells k) (v.size k) r.whole).short)

-- a rule's record is a whole term, so nothing is wanted behind its row
pub whole_row : (v : View) (k : ℕ) (p : List ℕ) → Hangs v k p → wants p ≡ 0
whole_row v k p h =
    let t = whole_term (v.cells k) (v.size k) h.right.whole in
    empty_none (wants_rest p [] (λ c i. form_low (term v k) (subst (λ (z : List ℕ). Memᴰ c z) (sym h.is) (in_reverse p i)))
    (subst (Terms 1) (sym (form_row (term v k)) ∙ ap (map blank_of) (h.is ∙ sym (append-nil (reverse p)))) t.form))

module _ (v : View) (small : (n : ℕ) → Used v.tree n → n < last_link) where
  -- ---- where all this is found the view is right

  module _ (e : Ended v.tree Bare (Told v)) where
    short : (n : ℕ) (r : List ℕ) → Up v.tree (suc n) r → length r ≤ 33
    short n r x = let q = e.told n (up_used x) in let l = row_long q.0 in omega (arith, ap length (up_same q.1 x), go q.0 q.2 (dec_lt n nodes_limit))
      where
        go : (r : List ℕ) → Told v n r → Dec (n < nodes_limit) → length (behind r) ≤ 32
        go r t (yes l) = let s = (t.node l).short in omega arith
        go r t (no l) = let h = t.rule (n - nodes_limit) (omega arith) in omega
            (arith, form_long v (n - nodes_limit) h.right, ap length h.is, length-reverse (behind r))

    ways : (x : End) → Memᴰ x (ends (leaves v)) → Up v.tree (suc x.last) (reverse x.form)
    ways x i = let q = of_ends v (taken v) i in subst (λ (y : End). Up v.tree (suc y.last) (reverse y.form)) q.3 (at q.0 q.1)
      where
        same : (k : ℕ) {c : ℕ} {p : List ℕ} → number v k ≡ c → form v k ≡ reverse p → c ∷ p ≡ reverse (form v k ++ (number v k ∷ []))
        same k {c} {p} a b =
            ap (λ (z : List ℕ). c ∷ z) (sym (reverse-reverse p) ∙ ap reverse (sym b)) ∙ ap (λ (z : ℕ). z ∷ reverse (form v k)) (sym a)
            ∙ sym (reverse-append (form v k) (number v k ∷ []))

        by : (k : ℕ) {r : List ℕ} → Up v.tree (suc (nodes_limit + k)) r → Told v (nodes_limit + k) r
            → Up v.tree (suc (nodes_limit + k)) (reverse (form v k ++ (number v k ∷ [])))
        by k (down {c = c} {r = p} u d y) t = subst (λ (z : List ℕ). Up v.tree (suc (nodes_limit + k)) z) (same k d (t.rule k refl).is) (down u d y)

        at : (k : ℕ) → taken v k ≡ true → Up v.tree (suc (nodes_limit + k)) (reverse (form v k ++ (number v k ∷ [])))
        at k u = let q = e.told (nodes_limit + k) u in by k q.1 q.2

    covered : (n : ℕ) → Used v.tree n → Covered v.tree (ends (leaves v)) n
    covered n u = at (reach_end v.tree e.tree 33 short (λ k. Used v.tree k × (nodes_limit ≤ k)) end n u)
      where
        end : (n : ℕ) → Used v.tree n → (Used v.tree n × (nodes_limit ≤ n)) ⊎ ((k : ℕ) × (v.tree.first (suc n) ≡ suc k))
        end n u = go (v.tree.first (suc n)) refl
          where
            go : (l : ℕ) → v.tree.first (suc n) ≡ l → (Used v.tree n × (nodes_limit ≤ n)) ⊎ ((k : ℕ) × (v.tree.first (suc n) ≡ suc k))
            go zero q = inl (u, e.bare (child (suc n)) u q)
            go (suc k) q = inr (k, q)

        at : (k : ℕ) × (Used v.tree k × (nodes_limit ≤ k)) × On v.tree n (suc k) → Covered v.tree (ends (leaves v)) n
        at q =
            let h = q.1.1 in
            let d : q.0 ≡ nodes_limit + (q.0 - nodes_limit) = omega arith in
            let w : taken v (q.0 - nodes_limit) ≡ true = ap v.tree.used (sym d) ∙ q.1.0 in
            record {
              end = end_at v (q.0 - nodes_limit);
              among = to_ends v (taken v) (q.0 - nodes_limit) w (let l = small q.0 q.1.0 in omega arith);
              on = subst (λ (z : ℕ). On v.tree n (suc z)) d q.2;
            }

    pub ended_right : Right v
    ended_right = record {
      records = λ k u. ((e.told (nodes_limit + k) u).2.rule k refl).right;
      tree = record { goes = e.tree.goes; comes = e.tree.comes; ways = ways; covered = covered };
    }

  -- ---- where the view is right all this is found

  module _ (right : Right v) where
    tree : Tree v.tree
    tree = passes_tree right.tree

    bare : (s : Hook) → Valid v.tree s → to v.tree s ≡ 0 → Bare s
    bare (child zero) u e = tt
    bare (after n) u e = tt
    bare (child (suc n)) u e = go (dec_lt n nodes_limit)
      where
        c : Covered v.tree (ends (leaves v)) n
        c = right.tree.covered n u

        at : n < nodes_limit → (suc c.end.last ≡ suc n) ⊎ ((i : ℕ) × Used v.tree i × (v.tree.parent i ≡ suc n)) → nodes_limit ≤ n
        at l (inl q) = let k = of_ends v (taken v) c.among in absurd (omega (arith, ap (λ (x : End). x.last) k.3))
        at l (inr q) = absurd (childless v.tree tree (suc n) e q.0 q.1 q.2)

        go : Dec (n < nodes_limit) → nodes_limit ≤ n
        go (yes l) = at l (way_child c.on (right.tree.ways c.end c.among))
        go (no l) = omega arith

    -- a node's row is a beginning of a form that goes on
    inner : (n : ℕ) → n < nodes_limit → {c : ℕ} {p : List ℕ} → Up v.tree (suc n) (c ∷ p) → Inner c p
    inner n l {c} {p} x = at ((numbered (hanging v small right)).begins n (c ∷ p) l x)
      where
        by : (t : List ℕ) → Terms 1 (blank_form t) → length t ≤ 32 → (u : List ℕ) → reverse (c ∷ p) ++ u ≡ form_of t → Inner c p
        by t w s u d =
            let whole : reverse p ++ (c ∷ u) ≡ form_of t = sym (ap (λ (z : List ℕ). z ++ u) (reverse-cons c p) ∙ append_assoc (reverse p) (c ∷ []) u) ∙ d in
            let o = open_row (wants_rest p (c ∷ u) (λ a i. form_low t (subst (λ (z : List ℕ). Memᴰ a z) whole (Memᴰ.append_left (c ∷ u) (in_reverse p i))))
            (subst (Terms 1) (sym (form_row t) ∙ ap (map blank_of) (sym whole)) w)) in
            record {
              low = form_low t (subst (λ (z : List ℕ). Memᴰ c z) whole (Memᴰ.append_right (reverse p) (Memᴰ.head refl)));
              short = omega (arith, ap length whole, length-append (reverse p) (c ∷ u), length-reverse p, length-map t blank_number);
              wanting = λ z. omega (arith, o.is);
            }

        at : Begins (reverse (c ∷ p)) (bases (leaves v)) → Inner c p
        at b =
            let x = Memᴰ.of_map (λ (y : Leaf). y.form) (leaves v) b.among in
            let y = Memᴰ.of_map (leaf v) (listed (taken v) rules_limit) x.1 in
            let u = (of_listed (taken v) rules_limit y.1).0 in
            let t = term_stands_at v small right y.0 u in
            by (term v y.0) t.form (omega (arith, term_size v small right y.0 u, t.short)) b.rest
            (b.is ∙ sym x.2 ∙ ap (λ (z : Leaf). z.form) (sym y.2))

    told : (n : ℕ) → Used v.tree n → (r : List ℕ) × Up v.tree (suc n) r × Told v n r
    told n u = go (dec_lt n nodes_limit)
      where
        node : n < nodes_limit → {r : List ℕ} → Up v.tree (suc n) r → Told v n r
        node l (down {c = c} {r = p} w d y) = record { node = λ _. subst (λ (z : ℕ). Inner z p) (sym d) (inner n l (down w d y)); rule = λ k q. absurd (omega arith) }

        hangs : (k : ℕ) → n ≡ nodes_limit + k → (r : List ℕ) × Up v.tree (suc n) r × Told v n r
        hangs k q =
            let w : taken v k ≡ true = ap v.tree.used (sym q) ∙ u in
            let x = right.tree.ways (end_at v k) (to_ends v (taken v) k w (let l = small n u in omega arith)) in (
              number v k ∷ reverse (form v k),
              subst (λ (z : ℕ). Up v.tree (suc z) (number v k ∷ reverse (form v k))) (sym q)
                  (subst (λ (z : List ℕ). Up v.tree (suc (nodes_limit + k)) z) (reverse-append (form v k) (number v k ∷ [])) x),
              record {
                node = λ l. absurd (omega arith);
                rule = λ j d. let s : k ≡ j = omega arith in subst (λ (z : ℕ). Hangs v z (reverse (form v k))) s
                    (record { right = right.records k w; is = sym (reverse-reverse (form v k)) });
              },
            )

        go : Dec (n < nodes_limit) → (r : List ℕ) × Up v.tree (suc n) r × Told v n r
        go (yes l) = let q = tree.rooted n u in (q.0, q.1, node l q.1)
        go (no l) = hangs (n - nodes_limit) (omega arith)

    pub right_ended : Ended v.tree Bare (Told v)
    right_ended = record { tree = tree; bare = bare; told = told }
