-- One rule more, one rule less: what is right stays right, and the set of rules changes by that rule alone.
use Rattle.std.specs.Prelude.{◌≡◌, ◌⊎◌, ◌↔◌, Bool, ℕ, suc, ◌+◌, ◌-◌, ◌≤◌, ◌<◌, eqb, ltb, length, get_or, take, replicate, Ok}
use Rattle.std.proofs.Math.Path.{refl, sym, ap, ap₂}
use Rattle.std.proofs.Common.{◌∙◌, subst, arith, lt-ltb, eq-eqb, ne_eqb, take_at, get_or-append-add}
use Rattle.std.proofs.Math.Logic.{inl, inr}
use mathlib.Core.List.Memᴰ
use mathlib.Core.List.{List, [], ◌∷◌, ◌++◌, map, reverse, reverse-append, Memᴰ}
use Rattle.std.proofs.Math.Bool.{true, false, not}
use Rattle.std.proofs.Math.Decide.{ℕ_discrete}
use Rattle.std.proofs.Math.Seq.{take-length}
use Rattle.deciding.specs.Deciding.{pick, both, both_false, true_not_false}
use Rattle.layout.specs.Layout.{rule_numbers, nodes_limit, rules_limit, last_link}
use Rattle.term.specs.Reading.{read_term}
use Rattle.term.specs.Whole.{whole_alone}
use Rattle.shape.specs.Basics.{up_used}
use Rattle.shape.specs.Shape.{Shape, Used, On, End, Passes, Joins}
use Rattle.shape.specs.Rows.{on_row, end_on, end_childless}
use Rattle.shape.specs.Change.{Trimmed}
use Rattle.tree.specs.Promises.{Hung}
use Rattle.shape.specs.Partly.{Partly, Left, link_partly, ended_new, left_of, trimmed_passes, trimmed_kept, trimmed_gone, passes_same}
use Rattle.shape.specs.Tallies.{listed}
use Rattle.shape.specs.Leaves.{end_of, ends, Hanging, rows_free}
use Rattle.book.specs.Rules.{Rule, Held, nothing, rule, with_rule, without_rule}
use Rattle.book.specs.Gathered.{not_rule}
use Rattle.book.specs.Memory.{View, taken, number, term, rule_at, form, form_of, leaf, leaves, rules_of, Recorded, Right}
use Rattle.book.specs.Filling.{zeros_are}
use Rattle.book.specs.Holding.{end_at, of_ends, to_ends, hanging, at_holds}

-- What a place says in two views.
pub record SameAt (v v' : View) (j : ℕ) : Type 0 where
  pub used : taken v' j ≡ taken v j
  pub numbers : taken v j ≡ true → number v' j ≡ number v j
  pub size : v'.size j ≡ v.size j
  pub cells : v'.cells j ≡ v.cells j

module _ {v v' : View} {j : ℕ} (s : SameAt v v' j) where
  same_term : term v' j ≡ term v j
  same_term = ap₂ (λ (n : ℕ) (c : List ℕ). take n c) s.size s.cells

  same_rule : rule_at v' j ≡ rule_at v j
  same_rule = ap (λ (t : List ℕ). record { term = t }) same_term

  same_end : taken v j ≡ true → end_at v' j ≡ end_at v j
  same_end u = ap₂ (λ (t : List ℕ) (k : ℕ). end_of (record { slot = j; form = form_of t; number = k })) same_term (s.numbers u)

  same_record : taken v j ≡ true → v'.place (number v j) ≡ v.place (number v j) → Recorded v j → Recorded v' j
  same_record u p c = record {
    low = subst (λ (k : ℕ). k < rule_numbers) (sym (s.numbers u)) c.low;
    found = ap v'.place (s.numbers u) ∙ p ∙ c.found;
    whole = ap read_term s.cells ∙ c.whole ∙ ap Ok (sym s.size);
    clean = λ i h. ap (λ (l : List ℕ). get_or l i 0) s.cells ∙ c.clean i (subst (λ (n : ℕ). n ≤ i) s.size h);
  }

-- a rule is held under k, by what stands at its place
holding : View → ℕ → ℕ → Held
holding v k r = pick (both (ltb r rules_limit) (both (taken v r) (eqb (number v r) k))) (rule (rule_at v r)) nothing

not_taken : (v : View) (k r : ℕ) → taken v r ≡ false → holding v k r ≡ nothing
unfolding holding
not_taken v k r e =
    ap (λ (b : Bool). pick b (rule (rule_at v r)) nothing)
    (ap (λ (x : Bool). both (ltb r rules_limit) (both x (eqb (number v r) k))) e ∙ both_false (ltb r rules_limit))

not_number : (v : View) (k r : ℕ) → ¬ (number v r ≡ k) → holding v k r ≡ nothing
unfolding holding
not_number v k r n =
    ap (λ (b : Bool). pick b (rule (rule_at v r)) nothing)
    (ap (λ (x : Bool). both (ltb r rules_limit) (both (taken v r) x)) (ne_eqb (number v r) k n) ∙ ap (both (ltb r rules_limit)) (both_false (taken v r))
    ∙ both_false (ltb r rules_limit))

is_number : (v : View) (k r : ℕ) → r < rules_limit → taken v r ≡ true → number v r ≡ k → holding v k r ≡ rule (rule_at v r)
unfolding holding
is_number v k r l u n =
    ap (λ (b : Bool). pick b (rule (rule_at v r)) nothing)
    (ap (λ (x : Bool). both x (both (taken v r) (eqb (number v r) k))) (lt-ltb r rules_limit l) ∙ ap (λ (x : Bool). both x (eqb (number v r) k)) u
    ∙ eq-eqb (number v r) k n)

same_holding : (v v' : View) (k r : ℕ) → SameAt v v' r → holding v' k r ≡ holding v k r
unfolding holding
same_holding v v' k r s = go (taken v r) refl
  where
    go : (b : Bool) → taken v r ≡ b → holding v' k r ≡ holding v k r
    go false e = not_taken v' k r (s.used ∙ e) ∙ sym (not_taken v k r e)
    go true e = ap₂ (λ (b : Bool) (x : Rule). pick (both (ltb r rules_limit) b) (rule x) nothing)
        (ap₂ both s.used (ap (λ (x : ℕ). eqb x k) (s.numbers e))) (same_rule s)

-- ---- one rule more

-- The number k with its rule comes to the free place r, below the link p of its form's last node in the tree m.
pub record Added (v v' : View) (k r p : ℕ) (it : Rule) (m : Shape) : Type 0 where
  pub low : k < rule_numbers
  pub new : rules_of v k ≡ nothing
  pub place : r < rules_limit
  pub free : taken v r ≡ false
  pub whole : read_term it.term ≡ Ok (length it.term)
  pub partly : Partly m (ends (leaves v)) p (reverse (form_of it.term))
  pub rules_kept : (y : ℕ) → nodes_limit ≤ y → (m.used y ≡ v.tree.used y) × (m.cell y ≡ v.tree.cell y)
  pub hung : Hung m v'.tree p r k
  pub to_place : v'.place k ≡ r
  pub places : (j : ℕ) → ¬ (j ≡ k) → v'.place j ≡ v.place j
  pub size : v'.size r ≡ length it.term
  pub sizes : (j : ℕ) → ¬ (j ≡ r) → v'.size j ≡ v.size j
  pub cells : (n : ℕ) × (v'.cells r ≡ it.term ++ replicate n 0)
  pub cellss : (j : ℕ) → ¬ (j ≡ r) → v'.cells j ≡ v.cells j

module _ (v v' : View) (k r p : ℕ) (it : Rule) (m : Shape) (small : (n : ℕ) → Used v.tree n → n < last_link) (right : Right v) (a : Added v v' k r p it m) where
  abbrev t : List ℕ
  t = it.term

  added_same : (j : ℕ) → ¬ (j ≡ r) → SameAt v v' j
  added_same j d =
      let e : ¬ (nodes_limit + j ≡ nodes_limit + r) = λ q. d (omega arith) in
      let q = a.rules_kept (nodes_limit + j) (omega arith) in
      record { used = a.hung.links.kept.used (nodes_limit + j) e ∙ q.0; numbers = λ u. a.hung.links.kept.cell (nodes_limit + j) e ∙ q.1; size = a.sizes j d; cells = a.cellss j d }

  added_taken : taken v' r ≡ true
  added_taken = a.hung.links.now

  added_number : number v' r ≡ k
  added_number = a.hung.links.cell

  added_term : term v' r ≡ t
  added_term = ap₂ (λ (n : ℕ) (c : List ℕ). take n c) a.size a.cells.1 ∙ take_at t (replicate a.cells.0 0) (length t) refl

  added_rule : rule_at v' r ≡ it
  added_rule = ap (λ (s : List ℕ). record { term = s }) added_term

  -- a rule that is held has another number and another place
  other_place : (j : ℕ) → taken v j ≡ true → ¬ (j ≡ r)
  other_place j u e = true_not_false u (ap (taken v) e ∙ a.free)

  other_number : (j : ℕ) → taken v j ≡ true → ¬ (number v j ≡ k)
  other_number j u e = not_rule (sym a.new ∙ ap (rules_of v) (sym e) ∙ at_holds v small right j u)

  new_record : Recorded v' r
  new_record = record {
    low = subst (λ (x : ℕ). x < rule_numbers) (sym added_number) a.low;
    found = ap v'.place added_number ∙ a.to_place;
    whole = ap read_term (a.cells.1 ∙ ap (λ (l : List ℕ). l ++ replicate a.cells.0 0) (sym (take-length t)))
        ∙ whole_alone t (replicate a.cells.0 0) (length t) a.whole ∙ ap Ok (sym a.size);
    clean = λ i h. ap (λ (l : List ℕ). get_or l i 0) a.cells.1 ∙ past i (subst (λ (n : ℕ). n ≤ i) a.size h);
  }
    where
      past : (i : ℕ) → length t ≤ i → get_or (t ++ replicate a.cells.0 0) i 0 ≡ 0
      past i h =
          let e : i ≡ length t + (i - length t) = omega arith in
          ap (λ (x : ℕ). get_or (t ++ replicate a.cells.0 0) x 0) e ∙ get_or-append-add t (replicate a.cells.0 0) (i - length t) 0
          ∙ zeros_are a.cells.0 (i - length t)

  added_records : (j : ℕ) → taken v' j ≡ true → Recorded v' j
  added_records j u = go (ℕ_discrete j r)
    where
      go : Dec (j ≡ r) → Recorded v' j
      go (yes e) = subst (Recorded v') (sym e) new_record
      go (no e) =
          let s = added_same j e in
          let w : taken v j ≡ true = sym s.used ∙ u in
          same_record s w (a.places (number v j) (other_number j w)) (right.records j w)

  joins : Joins (end_at v' r) (ends (leaves v)) (ends (leaves v'))
  joins = record { of = of; kept = kept; joined = to_ends v' (taken v') r added_taken a.place }
    where
      of : (y : End) → Memᴰ y (ends (leaves v')) → (y ≡ end_at v' r) ⊎ Memᴰ y (ends (leaves v))
      of y i = go (of_ends v' (taken v') i)
        where
          go : (j : ℕ) × (taken v' j ≡ true) × (j < rules_limit) × (end_at v' j ≡ y) → (y ≡ end_at v' r) ⊎ Memᴰ y (ends (leaves v))
          go q = by (ℕ_discrete q.0 r)
            where
              by : Dec (q.0 ≡ r) → (y ≡ end_at v' r) ⊎ Memᴰ y (ends (leaves v))
              by (yes e) = inl (sym q.3 ∙ ap (end_at v') e)
              by (no e) =
                  let s = added_same q.0 e in
                  let w : taken v q.0 ≡ true = sym s.used ∙ q.1 in
                  inr (Memᴰ.cast (sym q.3 ∙ same_end s w) (to_ends v (taken v) q.0 w q.2))

      kept : (y : End) → Memᴰ y (ends (leaves v)) → Memᴰ y (ends (leaves v'))
      kept y i =
          let q = of_ends v (taken v) i in
          let s = added_same q.0 (other_place q.0 q.1) in
          Memᴰ.cast (sym q.3 ∙ sym (same_end s q.1)) (to_ends v' (taken v') q.0 (s.used ∙ q.1) q.2)

  added_tree : Passes v'.tree (ends (leaves v'))
  added_tree =
      ended_new
      (link_partly m v'.tree (ends (leaves v)) a.hung.at k (nodes_limit + r) (reverse (form_of t))
      (subst (λ (z : ℕ). Partly m (ends (leaves v)) z (reverse (form_of t))) (sym a.hung.below) a.partly) a.hung.sorted a.hung.links)
      (end_at v' r) refl row joins
    where
      row : reverse (form v' r ++ (number v' r ∷ [])) ≡ k ∷ reverse (form_of t)
      row = ap₂ (λ (s : List ℕ) (n : ℕ). reverse (form_of s ++ (n ∷ []))) added_term added_number ∙ reverse-append (form_of t) (k ∷ [])

  pub added_right : Right v'
  added_right = record { records = added_records; tree = added_tree }

  pub added_rules : (j : ℕ) → rules_of v' j ≡ with_rule (rules_of v) k it j
  unfolding holding
  added_rules j = go (ℕ_discrete j k)
    where
      go : Dec (j ≡ k) → rules_of v' j ≡ with_rule (rules_of v) k it j
      go (yes e) =
          let here : rules_of v' k ≡ rule it = ap (holding v' k) a.to_place ∙ is_number v' k r a.place added_taken added_number ∙ ap rule added_rule in
          ap (rules_of v') e ∙ here ∙ sym (ap (λ (b : Bool). pick b (rule it) (rules_of v j)) (eq-eqb j k e))
      go (no e) = by (ℕ_discrete (v.place j) r) ∙ sym (ap (λ (b : Bool). pick b (rule it) (rules_of v j)) (ne_eqb j k e))
        where
          moved : rules_of v' j ≡ holding v' j (v.place j)
          moved = ap (holding v' j) (a.places j e)

          by : Dec (v.place j ≡ r) → rules_of v' j ≡ rules_of v j
          by (yes q) =
              moved ∙ not_number v' j (v.place j) (λ d. e (sym d ∙ ap (number v') q ∙ added_number))
              ∙ sym (not_taken v j (v.place j) (ap (taken v) q ∙ a.free))
          by (no q) = moved ∙ same_holding v v' j (v.place j) (added_same (v.place j) q)

-- ---- one rule less

-- The rule at the place r goes from the tree, with the nodes that only it needs; all else stays.
pub record Removed (v v' : View) (r : ℕ) : Type 0 where
  pub used : taken v r ≡ true
  pub trimmed : Trimmed v.tree (suc (nodes_limit + r)) v'.tree
  pub places : (j : ℕ) → v'.place j ≡ v.place j
  pub sizes : (j : ℕ) → v'.size j ≡ v.size j
  pub cellss : (j : ℕ) → v'.cells j ≡ v.cells j

module _ (v v' : View) (r : ℕ) (small : (n : ℕ) → Used v.tree n → n < last_link) (right : Right v) (a : Removed v v' r) where
  low : (j : ℕ) → taken v j ≡ true → j < rules_limit
  low j u = let l = small (nodes_limit + j) u in omega arith

  hang : Hanging v.tree (leaves v)
  hang = hanging v small right

  others : ℕ → Bool
  others j = both (taken v j) (not (eqb j r))

  of_others : (j : ℕ) → others j ≡ true → (taken v j ≡ true) × ¬ (j ≡ r)
  unfolding others
  of_others j e = go (taken v j) refl e
    where
      go : (b : Bool) → taken v j ≡ b → both b (not (eqb j r)) ≡ true → (taken v j ≡ true) × ¬ (j ≡ r)
      go true q e = (q, λ d. true_not_false e (ap not (eq-eqb j r d)))
      go false q e = absurd (true_not_false e refl)

  to_others : (j : ℕ) → taken v j ≡ true → ¬ (j ≡ r) → others j ≡ true
  unfolding others
  to_others j u d = ap₂ both u (ap not (ne_eqb j r d))

  rest : List End
  rest = ends (map (leaf v) (listed others rules_limit))

  leaves_joins : Joins (end_at v r) rest (ends (leaves v))
  unfolding rest
  leaves_joins = record { of = of; kept = kept; joined = to_ends v (taken v) r a.used (low r a.used) }
    where
      of : (y : End) → Memᴰ y (ends (leaves v)) → (y ≡ end_at v r) ⊎ Memᴰ y rest
      of y i = let q = of_ends v (taken v) i in go q (ℕ_discrete q.0 r)
        where
          go : (q : (j : ℕ) × (taken v j ≡ true) × (j < rules_limit) × (end_at v j ≡ y)) → Dec (q.0 ≡ r) → (y ≡ end_at v r) ⊎ Memᴰ y rest
          go q (yes e) = inl (sym q.3 ∙ ap (end_at v) e)
          go q (no e) = inr (Memᴰ.cast (sym q.3) (to_ends v others q.0 (to_others q.0 q.1 e) q.2))

      kept : (y : End) → Memᴰ y rest → Memᴰ y (ends (leaves v))
      kept y i = let q = of_ends v others i in Memᴰ.cast (sym q.3) (to_ends v (taken v) q.0 (of_others q.0 q.1).0 q.2)

  left : Left v.tree rest (suc (nodes_limit + r))
  unfolding rest
  left = left_of right.tree (rows_free hang) (end_at v r) leaves_joins
      (λ y i e. let q = of_ends v others i in (of_others q.0 q.1).1
      (let d : nodes_limit + q.0 ≡ nodes_limit + r = ap (λ (z : End). z.last) q.3 ∙ e in omega arith))

  -- no other rule lies on the way up from this one
  off : (j : ℕ) → ¬ (j ≡ r) → ¬ (On v.tree (nodes_limit + j) (suc (nodes_limit + r)))
  off j d o =
      let u : taken v j ≡ true = up_used (on_row o (right.tree.ways (end_at v r) leaves_joins.joined)).up in
      let e = end_on right.tree (rows_free hang) (end_at v j) (end_at v r) (to_ends v (taken v) j u (low j u)) leaves_joins.joined o in
      d (omega arith)

  removed_same : (j : ℕ) → ¬ (j ≡ r) → SameAt v v' j
  removed_same j d = let q = trimmed_kept a.trimmed left (nodes_limit + j) (off j d) in record
      { used = q.0; numbers = λ u. q.1; size = a.sizes j; cells = a.cellss j }

  removed_gone : taken v' r ≡ false
  removed_gone = trimmed_gone a.trimmed left (end_childless right.tree (rows_free hang) (end_at v r) leaves_joins.joined)

  still_other : (j : ℕ) → taken v' j ≡ true → ¬ (j ≡ r)
  still_other j u e = true_not_false u (ap (taken v') e ∙ removed_gone)

  removed_ends : (y : End) → Memᴰ y rest ↔ Memᴰ y (ends (leaves v'))
  unfolding rest
  removed_ends y = (
    (λ i. let q = of_ends v others i in let o = of_others q.0 q.1 in let s = removed_same q.0 o.1 in
        Memᴰ.cast (sym q.3 ∙ sym (same_end s o.0)) (to_ends v' (taken v') q.0 (s.used ∙ o.0) q.2)),
    (λ i. let q = of_ends v' (taken v') i in let d = still_other q.0 q.1 in let s = removed_same q.0 d in let w : taken v q.0 ≡ true = sym s.used ∙ q.1 in
        Memᴰ.cast (sym q.3 ∙ same_end s w) (to_ends v others q.0 (to_others q.0 w d) q.2)),
  )

  pub removed_right : Right v'
  removed_right = record {
    records = λ j u.
        let d = still_other j u in
        let s = removed_same j d in
        let w : taken v j ≡ true = sym s.used ∙ u in same_record s w (a.places (number v j)) (right.records j w);
    tree = passes_same rest (ends (leaves v')) removed_ends (trimmed_passes a.trimmed left);
  }

  pub removed_rules : (j : ℕ) → rules_of v' j ≡ without_rule (rules_of v) (number v r) j
  unfolding holding
  removed_rules j = go (ℕ_discrete j (number v r))
    where
      moved : rules_of v' j ≡ holding v' j (v.place j)
      moved = ap (holding v' j) (a.places j)

      go : Dec (j ≡ number v r) → rules_of v' j ≡ without_rule (rules_of v) (number v r) j
      go (yes e) =
          let p : v.place j ≡ r = ap v.place e ∙ (right.records r a.used).found in
          moved ∙ not_taken v' j (v.place j) (ap (taken v') p ∙ removed_gone) ∙ sym (ap (λ (b : Bool). pick b nothing (rules_of v j)) (eq-eqb j (number v r) e))
      go (no e) = moved ∙ by (ℕ_discrete (v.place j) r) ∙ sym (ap (λ (b : Bool). pick b nothing (rules_of v j)) (ne_eqb j (number v r) e))
        where
          by : Dec (v.place j ≡ r) → holding v' j (v.place j) ≡ rules_of v j
          by (yes q) = not_taken v' j (v.place j) (ap (taken v') q ∙ removed_gone) ∙ sym (not_number v j (v.place j) (λ d. e (sym d ∙ ap (number v) q)))
          by (no q) = same_holding v v' j (v.place j) (removed_same (v.place j) q)
