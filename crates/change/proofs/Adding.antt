-- Adding: each refusal is what the rules judge, and where none is given the new memory holds the new set.
use mathlib.Core.Path.{◌≡◌, refl, sym, ap, ap₂, ◌∙◌, subst, fun_ext}
use mathlib.Core.Logic.{◌⊎◌, inl, inr}
use mathlib.Core.List.Memᴰ
use mathlib.Core.List.{List, [], ◌∷◌, ◌++◌, map, reverse, Memᴰ}
use mathlib.Core.Bool.{Bool, true, false}
use Prim.Native.Nat.{ℕ, zero, suc, ◌+◌, ◌-◌, ◌≤◌, ◌<◌}
use native.Mathlib.Omega.{arith}
use native.Mathlib.Decide.{ℕ_discrete}
use borrow.Author.Tests.{lt-ltb, le-ltb, le-leb, lt-leb, eq-eqb, ne_eqb}
use lib.Dec.{eqb, ltb, leb}
use lib.ListN.{length, get_or, take, drop, length-take, length-drop, length-map, take-append-drop}
use lib.Seq.{take_at, take-length}
use Rattle.std.specs.Prelude.{Option, Some, None, is_some, Result, Ok, Err}
use Rattle.std.specs.Option.{ok_or}
use Rattle.std.proofs.lemmas.List.{take-take}
use Rattle.deciding.specs.Deciding.{pick, true_not_false}
use Rattle.layout.specs.Layout.{rule_numbers, rule_map_words, nodes_limit, rules_limit, rule_map_at, last_link, tree_words, book_words}
use Rattle.bits.specs.Packed.{bits, FirstOf}
use Rattle.bits.specs.Laws.{length_bits, bit_low}
use Rattle.term.specs.Cells.{Terms, blank_form}
use Rattle.term.specs.Whole.{TermAt, whole_term}
use Rattle.shape.specs.Basics.{up_live}
use Rattle.shape.specs.Shape.{Shape, Used}
use Rattle.shape.specs.Rows.{passes_tree}
use Rattle.shape.specs.Tally.{tally}
use Rattle.shape.specs.Tallies.{tally_all, tally_le, as_many_all}
use Rattle.links.specs.Words.{shape}
use Rattle.shape.specs.Change.{Grown, none, more}
use Rattle.tree.specs.Promises.{Sound, Planted, Hangable, Hung}
use Rattle.shape.specs.Partly.{Partly, grown_rules}
use Rattle.tree.specs.Plant.{planted_partly, planted_full, planted_fits, no_rule}
use Rattle.shape.specs.Leaves.{Leaf, bases, ends, Hanging}
use Rattle.book.specs.declared.NotAdded.{NotAdded}
use Rattle.book.specs.declared.NotAdded.TheVariants.{HeldAlready, BookFull, NoNodes}
use Rattle.book.specs.Rules.{Rule, Held, nothing, rule, Rules, is_held, with_rule, terms, rule_count, nodes_of, judged}
use Rattle.book.specs.Gathered.{Standing, terms_standing, rule_inj, not_rule}
use Rattle.book.specs.Memory.{view, taken, term, form_of, leaf, leaves, Passing, rules_in}
use Rattle.book.specs.Forms.{form_free, count_forms}
use Rattle.book.specs.Holding.{rules_tally, count_tally, hanging, base_forms, at_holds, term_stands_at}
use Rattle.change.specs.Change.{Added, added_right, added_rules}
use Rattle.book.specs.Promises.{IsTerm, place_of}
use Rattle.change.specs.Promises.{TakesLowest, FreePlace, Chooses, Adds, Stores}
use Rattle.book.specs.Looking.{rule_taken, tree_long, nodes_low}
use Rattle.book.specs.Placing.{Placed, not_placed, placed}
use Rattle.change.proofs.Removing.{TreeOnly}

-- no node comes or goes
no_change : (m : Shape) → TakesLowest m m
no_change m = record { kept = λ n l u. u; lowest = λ n l f u. absurd (true_not_false u f) }

-- a chain takes the lowest free node each time
grown_kept : {m₀ : Shape} {l₀ : ℕ} {m : Shape} {l : ℕ} {row : List ℕ} → Grown m₀ l₀ row m l → (n : ℕ) → m₀.used n ≡ true → m.used n ≡ true
grown_kept none n u = u
grown_kept (more {m = m} {m' = m'} {n = x} s g lo so o k) n u = go (ℕ_discrete n x) (grown_kept g n u)
  where
    go : Dec (n ≡ x) → m.used n ≡ true → m'.used n ≡ true
    go (yes e) i = ap m'.used e ∙ k.now
    go (no e) i = k.kept.used n e ∙ i

grown_lowest : {m₀ : Shape} {l₀ : ℕ} {m : Shape} {l : ℕ} {row : List ℕ} → Grown m₀ l₀ row m l → (n : ℕ) → m₀.used n ≡ false → m.used n ≡ true → (j : ℕ) → j < n → m.used j ≡ true
grown_lowest none n f u j h = absurd (true_not_false u f)
grown_lowest (more {m = m} {m' = m'} {n = x} s g lo so o k) n f u j h = by (ℕ_discrete j x) (λ i. grown_lowest g n f i j h)
  where
    was : Dec (n ≡ x) → (m.used n ≡ true → m.used j ≡ true) → m.used j ≡ true
    was (yes e) ih = lo.below j (omega arith)
    was (no e) ih = ih (sym (k.kept.used n e) ∙ u)

    by : Dec (j ≡ x) → (m.used n ≡ true → m.used j ≡ true) → m'.used j ≡ true
    by (yes e) ih = ap m'.used e ∙ k.now
    by (no d) ih = k.kept.used j d ∙ was (ℕ_discrete n x) ih

-- an add that is refused changes nothing
pub refused : (ws : List ℕ) (k : ℕ) (it : Rule) (why : NotAdded) → Passing ws → judged (rules_in ws) k it ≡ Err why → Adds ws ws k it (Err why)
refused ws k it why p e = record { answer = sym e; passes = p; rules = refl; nodes = no_change (view ws).tree; same = λ _. refl }

-- how an add is judged past 6
abbrev past_held : Rules → ℕ → Rule → Bool → Result (Unit {0}) NotAdded
past_held rules k it full = pick full (Err BookFull) (pick (ltb nodes_limit (nodes_of (with_rule rules k it))) (Err NoNodes) (Ok tt))

judge_new : (rules : Rules) (k : ℕ) (it : Rule) → rules k ≡ nothing → (b : Bool) → leb rules_limit (rule_count rules) ≡ b → judged rules k it ≡ past_held rules k it b
judge_new rules k it new b e = ap₂ (λ (h : Held) (x : Bool). pick (is_held h) (Err HeldAlready) (past_held rules k it x)) new e

-- ---- the place

module _ (ws : List ℕ) (k : ℕ) where
  -- 6
  held_already : (r : ℕ) → Placed ws k r → Chooses ws k (Err HeldAlready)
  held_already r at it =
      ap (λ (h : Held). pick (is_held h) (Err HeldAlready) (past_held (rules_in ws) k it (leb rules_limit (rule_count (rules_in ws))))) at.rule_is

  pub held_some : (o : Option ℕ) → o ≡ place_of (view ws) k → is_some o ≡ true → Chooses ws k (Err HeldAlready)
  held_some (Some r) e q = held_already r (placed ws k r (sym e))
  held_some None e q = absurd (true_not_false q refl)

  pub new_none : (o : Option ℕ) → o ≡ place_of (view ws) k → is_some o ≡ false → rules_in ws k ≡ nothing
  new_none None e q = not_placed ws k (sym e)
  new_none (Some r) e q = absurd (true_not_false refl q)

  module _ (p : Passing ws) (new : rules_in ws k ≡ nothing) where
    count_is : rule_count (rules_in ws) ≡ tally (taken (view ws)) rules_limit
    count_is = count_tally (rules_in ws) ∙ rules_tally (view ws) (nodes_low ws p.size) p.right

    bits_long : length (bits (take rule_map_words (drop rule_map_at ws))) ≡ rules_limit
    bits_long =
        omega (arith, length_bits (take rule_map_words (drop rule_map_at ws)), length-take rule_map_words (drop rule_map_at ws), length-drop rule_map_at ws, p.size)

    one : (x : ℕ) → x < 2 → ¬ (x ≡ 0) → eqb x 1 ≡ true
    one zero h n = absurd (n refl)
    one (suc zero) h n = refl
    one (suc (suc x)) h n = absurd (omega arith)

    -- 8, or the lowest free place
    pub chosen : (o : Option ℕ) → FirstOf 0 (bits (take rule_map_words (drop rule_map_at ws))) 0 o → Chooses ws k (ok_or o BookFull)
    chosen None f = λ it. judge_new (rules_in ws) k it new true (le-leb rules_limit (rule_count (rules_in ws)) (omega (arith, count_is, all)))
      where
        all : tally (taken (view ws)) rules_limit ≡ rules_limit
        all = tally_all (taken (view ws)) rules_limit
            (λ y h. sym (rule_taken ws y h)
            ∙ one (get_or (bits (take rule_map_words (drop rule_map_at ws))) y 0) (bit_low (take rule_map_words (drop rule_map_at ws)) y)
            (f.before y (omega arith) (omega (arith, bits_long))))
    chosen (Some r) f = record { new = new; low = low; free = free; few = omega (arith, count_is, tally_le (taken (view ws)) rules_limit, fewer) }
      where
        low : r < rules_limit
        low = omega (arith, f.0, bits_long)

        free : taken (view ws) r ≡ false
        free = sym (rule_taken ws r low) ∙ ap (λ (x : ℕ). eqb x 1) (f.1.here f.0)

        fewer : ¬ (tally (taken (view ws)) rules_limit ≡ rules_limit)
        fewer e = true_not_false (as_many_all (λ y. true) (taken (view ws)) rules_limit (λ y h u. refl)
            (e ∙ sym (tally_all (λ y. true) rules_limit (λ y h. refl))) r low refl) free

-- ---- the tree, with a place chosen

pub sound : (ws : List ℕ) → Passing ws → Sound (take tree_words ws)
sound ws p = record { size = tree_long ws p.size; tree = passes_tree p.right.tree }

module _ (ws : List ℕ) (k : ℕ) (it : Rule) (p : Passing ws) (r : ℕ) (place : FreePlace ws k r) (whole : IsTerm it.term) where
  abbrev t : List ℕ
  t = it.term

  -- the rules with it
  abbrev rules' : Rules
  rules' = with_rule (rules_in ws) k it

  low : (n : ℕ) → Used (view ws).tree n → n < last_link
  low = nodes_low ws p.size

  judge_past : judged (rules_in ws) k it ≡ past_held (rules_in ws) k it false
  judge_past = judge_new (rules_in ws) k it place.new false (lt-leb rules_limit (rule_count (rules_in ws)) place.few)

  term_whole : TermAt t (length t)
  term_whole = whole_term t (length t) whole

  form_terms : Terms 1 (blank_form t)
  form_terms = subst (λ (s : List ℕ). Terms 1 (blank_form s)) (take-length t) term_whole.form

  hang : Hanging (view ws).tree (leaves (view ws))
  hang = hanging (view ws) low p.right

  leaf_at : (x : Leaf) → Memᴰ x (leaves (view ws)) → (j : ℕ) × (taken (view ws) j ≡ true) × (leaf (view ws) j ≡ x)
  leaf_at x i = let q = Memᴰ.of_map (leaf (view ws)) _ i in (q.0, (Rattle.shape.specs.Tallies.of_listed (taken (view ws)) rules_limit q.1).0, q.2)

  old_terms : (j : ℕ) → taken (view ws) j ≡ true → Terms 1 (blank_form (term (view ws) j))
  old_terms j u = (term_stands_at (view ws) low p.right j u).form

  free_old : (x : Leaf) → Memᴰ x (leaves (view ws)) → (s : List ℕ) → x.form ++ s ≡ form_of t → s ≡ []
  free_old x i s e = let q = leaf_at x i in form_free (term (view ws) q.0) t (old_terms q.0 q.1) form_terms s (ap (λ (y : Leaf). y.form ++ s) q.2 ∙ e)

  free_new : (x : Leaf) → Memᴰ x (leaves (view ws)) → (s : List ℕ) → form_of t ++ s ≡ x.form → s ≡ []
  free_new x i s e = let q = leaf_at x i in form_free t (term (view ws) q.0) form_terms (old_terms q.0 q.1) s (e ∙ sym (ap (λ (y : Leaf). y.form) q.2))

  other_numbers : (x : Leaf) → Memᴰ x (leaves (view ws)) → x.form ≡ form_of t → ¬ (x.number ≡ k)
  other_numbers x i e n =
      let q = leaf_at x i in
      not_rule (sym place.new ∙ ap (rules_in ws) (sym (ap (λ (y : Leaf). y.number) q.2 ∙ n)) ∙ at_holds (view ws) low p.right q.0 q.1)

  -- the forms with the new one
  forms : List (List ℕ)
  forms = map form_of (terms rules')

  module _ (lk : k < rule_numbers) where
    with_here : rules' k ≡ rule it
    with_here = ap (λ (b : Bool). pick b (rule it) (rules_in ws k)) (eq-eqb k k refl)

    with_other : (j : ℕ) → ¬ (j ≡ k) → rules' j ≡ rules_in ws j
    with_other j d = ap (λ (b : Bool). pick b (rule it) (rules_in ws j)) (ne_eqb j k d)

    of : (f : List ℕ) → Memᴰ f forms → (f ≡ form_of t) ⊎ Memᴰ f (bases (leaves (view ws)))
    unfolding forms
    of f i = go ((terms_standing rules' q.0).0 q.1)
      where
        q : (s : List ℕ) × Memᴰ s (terms rules') × (form_of s ≡ f)
        q = Memᴰ.of_map form_of (terms rules') i

        go : Standing rules' q.0 → (f ≡ form_of t) ⊎ Memᴰ f (bases (leaves (view ws)))
        go s = by (ℕ_discrete s.number k)
          where
            by : Dec (s.number ≡ k) → (f ≡ form_of t) ⊎ Memᴰ f (bases (leaves (view ws)))
            by (yes d) = inl (sym q.2 ∙ ap form_of (sym s.term_is ∙ ap (λ (x : Rule). x.term) (rule_inj (sym s.is ∙ ap rules' d ∙ with_here))))
            by (no d) = inr ((base_forms (view ws) low p.right f).1 (Memᴰ.cast (sym q.2) (Memᴰ.map form_of ((terms_standing (rules_in ws) q.0).1
                (record { number = s.number; low = s.low; its = s.its; is = sym (with_other s.number d) ∙ s.is; term_is = s.term_is })))))

    kept : (f : List ℕ) → Memᴰ f (bases (leaves (view ws))) → Memᴰ f forms
    unfolding forms
    kept f i =
        let q = Memᴰ.of_map form_of (terms (rules_in ws)) ((base_forms (view ws) low p.right f).0 i) in
        let s = (terms_standing (rules_in ws) q.0).0 q.1 in
        Memᴰ.cast (sym q.2) (Memᴰ.map form_of ((terms_standing rules' q.0).1
        (record {
          number = s.number;
          low = s.low;
          its = s.its;
          is = with_other s.number (λ d. not_rule (sym place.new ∙ ap (rules_in ws) (sym d) ∙ s.is)) ∙ s.is;
          term_is = s.term_is;
        })))

    joined : Memᴰ (form_of t) forms
    unfolding forms
    joined = Memᴰ.map form_of ((terms_standing rules' t).1 (record { number = k; low = lk; its = it; is = with_here; term_is = refl }))

    -- planting
    module _ (t₁ : List ℕ) (l : ℕ) (form : List ℕ) (ef : form ≡ form_of t) (pl : Planted (take tree_words ws) t₁ form l) where
      planted : Planted (take tree_words ws) t₁ (form_of t) l
      planted = subst (λ (f : List ℕ). Planted (take tree_words ws) t₁ f l) ef pl

      nodes_is : nodes_of rules' ≡ Rattle.shape.specs.NodeCount.node_count_is forms
      unfolding forms
      nodes_is = count_forms (terms rules')

      -- 9
      pub no_nodes : l ≡ 0 → Adds ws (t₁ ++ drop tree_words ws) k it (Err NoNodes)
      no_nodes e = record {
        answer = sym (judge_past ∙ ap (λ (b : Bool). pick b (Err NoNodes) (Ok tt)) (lt-ltb nodes_limit (nodes_of rules') too_many));
        passes = subst Passing (sym same) p;
        rules = ap rules_in same;
        nodes = subst (λ (x : List ℕ). TakesLowest (view ws).tree (view x).tree) (sym same) (no_change (view ws).tree);
        same = λ _. same;
      }
        where
          too_many : nodes_limit < nodes_of rules'
          too_many = subst (λ (n : ℕ). nodes_limit < n) (sym nodes_is)
              (planted_full (take tree_words ws) t₁ (form_of t) l planted (leaves (view ws)) hang free_old forms of kept joined e)

          same : t₁ ++ drop tree_words ws ≡ ws
          same = ap (λ (x : List ℕ). x ++ drop tree_words ws) (planted.full e).0 ∙ take-append-drop tree_words ws

      module _ (nz : ¬ (l ≡ 0)) where
        judge_taken : judged (rules_in ws) k it ≡ (Ok tt)
        judge_taken =
            judge_past ∙ ap (λ (b : Bool). pick b (Err NoNodes) (Ok tt))
            (le-ltb nodes_limit (nodes_of rules') (subst (λ (n : ℕ). n ≤ nodes_limit) (sym nodes_is)
            (planted_fits (take tree_words ws) t₁ (form_of t) l planted (leaves (view ws)) hang free_old forms of kept joined nz)))

        partly : Partly (shape t₁) (ends (leaves (view ws))) l (reverse (form_of t))
        partly = planted_partly (take tree_words ws) t₁ (form_of t) l planted nz (ends (leaves (view ws))) p.right.tree

        rules_kept : (y : ℕ) → nodes_limit ≤ y → ((shape t₁).used y ≡ (view ws).tree.used y) × ((shape t₁).cell y ≡ (view ws).tree.cell y)
        rules_kept y h = grown_rules (planted.grown nz) y h

        pub hangable : length t₁ ≡ tree_words → Hangable t₁ l r k
        hangable lt = record {
          sound = record { size = lt; tree = partly.tree };
          live = up_live partly.at;
          place = place.low;
          free = (rules_kept (nodes_limit + r) (omega arith)).0 ∙ place.free;
          low = lk;
          absent = no_rule (form_of t) k partly free_new other_numbers;
        }

        -- the rule is taken
        pub taken_now : (t₂ ws₂ ws₃ : List ℕ) → Hung (shape t₁) (shape t₂) l r k → TreeOnly ws ws₂ (shape t₂)
            → Stores (view ws₂) (view ws₃) k r it → length ws₃ ≡ book_words → Adds ws ws₃ k it (Ok tt)
        taken_now t₂ ws₂ ws₃ hung only st size = record {
          answer = sym judge_taken;
          passes = record { size = size; right = added_right (view ws) (view ws₃) k r l it (shape t₁) low p.right added };
          rules = fun_ext (λ j. added_rules (view ws) (view ws₃) k r l it (shape t₁) low p.right added j);
          nodes = record {
            kept = λ n h u. still n h ∙ grown_kept (planted.grown nz) n u;
            lowest = λ n h f u j b. still j (omega arith)
                ∙ grown_lowest (planted.grown nz) n f (sym (still n h) ∙ u) j b;
          };
          same = λ n. absurd (n refl);
        }
          where
            -- hanging the rule and writing its record touch no node
            still : (n : ℕ) → n < nodes_limit → (view ws₃).tree.used n ≡ (shape t₁).used n
            still n h = ap (λ (m : Shape). m.used n) (st.tree ∙ only.tree) ∙ hung.links.kept.used n (λ e. omega arith)

            added : Added (view ws) (view ws₃) k r l it (shape t₁)
            added = record {
              low = lk;
              new = place.new;
              place = place.low;
              free = place.free;
              whole = whole;
              partly = partly;
              rules_kept = rules_kept;
              hung = subst (λ (m : Shape). Hung (shape t₁) m l r k) (sym (st.tree ∙ only.tree)) hung;
              to_place = st.to_place;
              places = λ j d. st.places j d ∙ only.places j;
              size = st.size;
              sizes = λ j d. st.sizes j d ∙ only.sizes j;
              cells = (32 - length t, st.cells);
              cellss = λ j d. st.cellss j d ∙ only.cellss j;
            }

-- the form is the front of the row
pub row_form : (row t : List ℕ) (k : ℕ) → take (length t + 1) row ≡ form_of t ++ (k ∷ []) → take (length t) row ≡ form_of t
row_form row t k e =
    sym (take-take (length t) (length t + 1) row (omega arith)) ∙ ap (take (length t)) e ∙ take_at (form_of t) (k ∷ []) (length t) (length-map t _)
