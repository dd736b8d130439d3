-- The machine on the rows of the book's tree: where it is done, what hangs there are the rules that answer.
use Rattle.std.specs.Prelude.{◌≡◌, refl, Bool, true, false, ℕ, suc, ◌+◌, ◌-◌, ◌<◌, T}
use Rattle.std.proofs.Common.{sym, ap, ◌∙◌, subst, arith}
use mathlib.Core.List.Memᴰ
use mathlib.Core.List.{List, [], ◌∷◌, ◌++◌, map, append-nil, append_assoc, reverse, reverse-reverse, Memᴰ}
use Rattle.std.proofs.Math.Decide.{dec_lt}
use Rattle.deciding.specs.Deciding.{true_not_false}
use Rattle.layout.specs.Layout.{nodes_limit, rules_limit, last_link}
use Rattle.term.specs.Cells.{Row, Blank, Proper, Terms, blank_of, blank_form}
use Rattle.term.specs.Machine.{State, failed, at, step, run, done}
use Rattle.term.specs.Matching.{AllProper, accepted_whole}
use Rattle.term.specs.Preorder.{same_rest}
use Rattle.shape.specs.Shape.{Shape, Used, Up}
use Rattle.shape.specs.Trie.{Trie, tip, node, trie, Bounded}
use Rattle.shape.specs.Search.{hits, found_good, good_found}
use Rattle.shape.specs.Search as search
use Rattle.shape.specs.Leaves.{Leaf, numbered}
use Rattle.shape.specs.Rows.{passes_tree, up_same}
use Rattle.book.specs.Memory.{View, taken, number, term, form, leaf, leaves, Right}
use Rattle.book.specs.Forms.{form_row}
use Rattle.book.specs.Holding.{hanging, term_stands_at, taken_leaf}
use Rattle.book.specs.Forms as forms

-- Reading on; or done one cell ago, so that this cell is the number of a rule that answers.
pub data Walk : Type 0 where
  reading : State → Walk
  listed : Walk

abbrev pub on_done : Bool → Walk → Walk
on_done true s = listed
on_done false s = s

module _ (fq fr : Bool) where
  abbrev pub next : ℕ → Walk → Walk
  next c (reading s) = on_done (done s) (reading (step fq fr (blank_of c) s))
  next c listed = reading failed

  -- a rule's number is found
  abbrev pub good : Walk → Bool
  good (reading s) = false
  good listed = true

  -- once failed, or past a rule, nothing is found
  pub failed_none : (m : Shape) (t : Trie) → hits next good m (reading failed) t ≡ []
  failed_none m tip = refl
  failed_none m (node n l r) = rw (failed_none m l, failed_none m r)

  pub listed_none : (m : Shape) (t : Trie) → hits next good m listed t ≡ []
  listed_none m tip = refl
  listed_none m (node n l r) = rw (failed_none m l, listed_none m r)

  abbrev after : Walk → List ℕ → Walk
  after w row = search.run next good w row

  -- a row of which no proper beginning is done is read as the machine reads it
  pub read_row : (s : State) (f : List ℕ) → ((p u : List ℕ) → p ++ u ≡ f → ¬ (u ≡ []) → done (run fq fr s (map blank_of p)) ≡ false)
      → after (reading s) f ≡ reading (run fq fr s (map blank_of f))
  read_row s [] h = refl
  read_row s (c ∷ f) h =
      ap (λ (b : Bool). after (on_done b (reading (step fq fr (blank_of c) s))) f) (h [] (c ∷ f) refl cons_nil)
      ∙ read_row (step fq fr (blank_of c) s) f (λ p u e n. h (c ∷ p) u (ap (λ (z : List ℕ). c ∷ z) e) n)
    where
      cons_nil : ¬ (c ∷ f ≡ [])
      cons_nil e = let z : ◌≡◌ {A = ℕ} 0 1 = cc in omega arith

  run_on : (w : Walk) (a b : List ℕ) → after w (a ++ b) ≡ after (after w a) b
  run_on w [] b = refl
  run_on w (c ∷ a) b = run_on (next c w) a b

  pub last_cell : (s : State) (f : List ℕ) (k : ℕ) → ((p u : List ℕ) → p ++ u ≡ f → ¬ (u ≡ []) → done (run fq fr s (map blank_of p)) ≡ false)
      → good (after (reading s) (f ++ (k ∷ []))) ≡ done (run fq fr s (map blank_of f))
  last_cell s f k h = ap good (run_on (reading s) f (k ∷ []) ∙ ap (next k) (read_row s f h)) ∙ by (done (run fq fr s (map blank_of f)))
    where
      by : (b : Bool) → good (on_done b (reading (step fq fr (blank_of k) (run fq fr s (map blank_of f))))) ≡ b
      by true = refl
      by false = refl

-- cells that memory holds are proper
proper_cell : (c : ℕ) → Proper (blank_of c)
proper_cell c = go (forms.side c)
  where
    go : forms.Side c → Proper (blank_of c)
    go (forms.symbol h s n) = subst Proper (sym s) h
    go (forms.variable h s n) = subst Proper (sym s) tt

all_proper : (p : List ℕ) → AllProper (map blank_of p)
all_proper [] = tt
all_proper (c ∷ p) = (proper_cell c, all_proper p)

map_append : (a b : List ℕ) → map blank_of (a ++ b) ≡ map blank_of a ++ map blank_of b
map_append [] b = refl
map_append (x ∷ a) b = ap (λ (z : Row Blank). blank_of x ∷ z) (map_append a b)

map_nil : (a : List ℕ) → map blank_of a ≡ [] → a ≡ []
map_nil [] e = refl
map_nil (x ∷ a) e = absurd (let z : ◌≡◌ {A = ℕ} 0 1 = cc in omega arith)

T_true : (b : Bool) → b ≡ true → T b
T_true b e = subst T (sym e) tt

not-true : (b : Bool) → ¬ (b ≡ true) → b ≡ false
not-true true n = absurd (n refl)
not-true false n = refl

-- no proper beginning of a whole form is done
pub not_before : (fq fr : Bool) (q : Row Blank) (f : List ℕ) → Terms 1 q → Terms 1 (map blank_of f) → (p u : List ℕ) → p ++ u ≡ f → ¬ (u ≡ [])
    → done (run fq fr (at 0 q) (map blank_of p)) ≡ false
not_before fq fr q f wq wf p u e n = not-true _ (λ d.
    let w = accepted_whole fq fr q (map blank_of p) wq (all_proper p) (T_true _ d) in
    n (map_nil u (same_rest w wf (sym (map_append p u) ∙ ap (map blank_of) e ∙ sym (append-nil (map blank_of f))))))

module _ (fq fr : Bool) (q : Row Blank) (wq : Terms 1 q) (v : View) (small : (n : ℕ) → Used v.tree n → n < last_link) (right : Right v) (b : Bounded v.tree) where
  abbrev pub found : List ℕ
  found = hits (next fq fr) (good fq fr) v.tree (reading (at 0 q)) (trie v.tree (v.tree.first 0))

  form_terms : (j : ℕ) → taken v j ≡ true → Terms 1 (map blank_of (form v j))
  form_terms j u = subst (Terms 1) (sym (form_row (term v j))) (term_stands_at v small right j u).form

  -- does the rule at the place j answer?
  abbrev pub answers_at : ℕ → Bool
  answers_at j = done (run fq fr (at 0 q) (blank_form (term v j)))

  leaf_good : (j : ℕ) → taken v j ≡ true → good fq fr (search.run (next fq fr) (good fq fr) (reading (at 0 q)) (form v j ++ (number v j ∷ []))) ≡ answers_at j
  leaf_good j u =
      last_cell fq fr (at 0 q) (form v j) (number v j) (λ p w e n. not_before fq fr q (form v j) wq (form_terms j u) p w e n)
      ∙ ap (λ (z : Row Blank). done (run fq fr (at 0 q) z)) (form_row (term v j))

  leaf_row : (j : ℕ) → taken v j ≡ true → Up v.tree (suc (nodes_limit + j)) (reverse (form v j ++ (number v j ∷ [])))
  leaf_row j u = right.tree.ways _ (Memᴰ.map Rattle.shape.specs.Leaves.end_of (taken_leaf v small right j u))

  -- a node of a form is not found
  inner_bad : (n : ℕ) (r : List ℕ) → n < nodes_limit → Up v.tree (suc n) r → good fq fr (search.run (next fq fr) (good fq fr) (reading (at 0 q)) (reverse r)) ≡ false
  inner_bad n r l up =
      let g = (numbered (hanging v small right)).begins n r l up in
      let x = Memᴰ.of_map (λ (y : Leaf). y.form) (leaves v) g.among in
      let y = Memᴰ.of_map (leaf v) _ x.1 in
      let u = (Rattle.shape.specs.Tallies.of_listed (taken v) rules_limit y.1).0 in
      let ef : form v y.0 ≡ g.form = ap (λ (z : Leaf). z.form) y.2 ∙ x.2 in
      ap (good fq fr) (read_row fq fr (at 0 q) (reverse r) (λ p w e n.
      not_before fq fr q (form v y.0) wq (form_terms y.0 u) p (w ++ g.rest)
      (sym (append_assoc p w g.rest) ∙ ap (λ (z : List ℕ). z ++ g.rest) e ∙ g.is ∙ sym ef)
      (λ z. n (nil_left w g.rest z))))
    where
      nil_left : (a c : List ℕ) → a ++ c ≡ [] → a ≡ []
      nil_left [] c e = refl
      nil_left (x ∷ a) c e = absurd (let z : ◌≡◌ {A = ℕ} 0 1 = cc in omega arith)

  -- what is found are the places of the rules that answer
  pub found_rule : (n : ℕ) → Memᴰ n found → (j : ℕ) × (n ≡ nodes_limit + j) × (taken v j ≡ true) × (answers_at j ≡ true)
  found_rule n i = go (dec_lt n nodes_limit)
    where
      g : (r : List ℕ) × Up v.tree (suc n) r × (good fq fr (search.run (next fq fr) (good fq fr) (reading (at 0 q)) (reverse r)) ≡ true)
      g = found_good (next fq fr) (good fq fr) v.tree (passes_tree right.tree) b (reading (at 0 q)) n i

      go : Dec (n < nodes_limit) → (j : ℕ) × (n ≡ nodes_limit + j) × (taken v j ≡ true) × (answers_at j ≡ true)
      go (yes l) = absurd (true_not_false g.2 (inner_bad n g.0 l g.1))
      go (no l) =
          let e : n ≡ nodes_limit + (n - nodes_limit) = omega arith in
          let up : Up v.tree (suc (nodes_limit + (n - nodes_limit))) g.0 = subst (λ (z : ℕ). Up v.tree (suc z) g.0) e g.1 in
          let u : taken v (n - nodes_limit) ≡ true = Rattle.shape.specs.Basics.up_used up in
          let same : reverse g.0 ≡ form v (n - nodes_limit)
          ++ (number v (n - nodes_limit) ∷ []) = ap reverse (up_same up (leaf_row (n - nodes_limit) u)) ∙ reverse-reverse _ in (
            n - nodes_limit,
            e,
            u,
            sym (leaf_good (n - nodes_limit) u)
                ∙ ap (λ (z : List ℕ). good fq fr (search.run (next fq fr) (good fq fr) (reading (at 0 q)) z)) (sym same) ∙ g.2,
          )

  pub rule_found : (j : ℕ) → taken v j ≡ true → answers_at j ≡ true → Memᴰ (nodes_limit + j) found
  rule_found j u e =
      good_found (next fq fr) (good fq fr) v.tree (passes_tree right.tree) b (reading (at 0 q)) (nodes_limit + j)
      (reverse (form v j ++ (number v j ∷ []))) (leaf_row j u)
      (ap (λ (z : List ℕ). good fq fr (search.run (next fq fr) (good fq fr) (reading (at 0 q)) z)) (reverse-reverse (form v j ++ (number v j ∷ []))) ∙ leaf_good j u ∙ e)
