-- The loop of the search: what was found so far, and what the points on the list have yet to give, is all that there is to find, and each turn
-- leaves less of it.
use mathlib.Core.Path.{◌≡◌, refl, sym, ap, ap₂, ◌∙◌, subst}
use mathlib.Core.Logic.{◌⊎◌, inl, inr}
use mathlib.Core.List.{[], List, ◌++◌, append-nil, append_assoc, Memᴰ}
use mathlib.Core.Bool.{Bool}
use Prim.Native.Nat.{ℕ, zero, suc, ◌+◌, ◌-◌, ◌^◌, ◌≤◌, ◌<◌}
use native.Mathlib.Omega.{arith}
use native.Mathlib.Decide.{ℕ_discrete}
use lib.ListN.{length, get_or, set, length-set}
use Rattle.std.proofs.Common.{Some, None, MutBor}
use lib.Seq.{get_or-set_same, get_or-set_other, get_or-take}
use Rattle.layout.specs.Layout.{rule_numbers, nodes_limit, links_at, last_link, tree_words}
use Rattle.bits.specs.Numbers.{Member, NumberSet}
use Rattle.term.specs.Cells.{Terms, blank_form}
use Rattle.term.specs.Machine.{at, run, done}
use Rattle.term.specs.Whole.{whole_term}
use Rattle.shape.specs.Shape.{child, Used}
use Rattle.links.specs.Words.{first_of}
use Rattle.shape.specs.Trie.{trie, Bounded}
use Rattle.shape.specs.Unfolded.{height_root}
use Rattle.shape.specs.Search.{hits}
use Rattle.book.specs.Rules.{Rule}
use Rattle.book.specs.Memory.{view, rule_at, Passing, rules_in}
use Rattle.book.specs.Holding.{at_holds, holds_at}
use Rattle.book.specs.Promises.{IsTerm}
use Rattle.questions.specs.declared.Point.{Point}
use Rattle.questions.specs.declared.Points.{Points}
use Rattle.questions.specs.declared.trying.Way.{Way}
use Rattle.questions.specs.declared.turning.Rest.{Rest}
use Rattle.questions.specs.Demand2.{term_form}
use Rattle.questions.specs.Walk.{next, good, found, found_rule, rule_found}
use Rattle.questions.specs.Promises.{walk_before, size_at, height_at, hits_at, Ready, Marked, point, Parts, Steady, Went, Pops, Pushes, Rooted, Answering, Searched}
use Rattle.questions.proofs.Leaving.{positive}
use Rattle.questions.proofs.Marking.{marks_none, marks_on}
use Rattle.questions.proofs.Threads as threads

-- the point at a level
abbrev pub point_at : List Point → ℕ → Point
point_at l j = get_or l j (record { link = 0; skip = 0; place = 0 })

-- how much of the tree is behind the first k points of the list
pub left : List ℕ → List Point → ℕ → ℕ
left ws l zero = 0
left ws l (suc k) = size_at ws (point_at l k).link + left ws l k

left_same : (ws : List ℕ) (l l' : List Point) (k : ℕ) → ((j : ℕ) → j < k → point_at l' j ≡ point_at l j) → left ws l' k ≡ left ws l k
unfolding left
left_same ws l l' zero h = refl
left_same ws l l' (suc k) h = ap₂ (λ (x : Point) (y : ℕ). size_at ws x.link + y) (h k (omega arith)) (left_same ws l l' k (λ j i. h j (omega arith)))

left_last : (ws : List ℕ) (l : List Point) (d : ℕ) → 0 < d → left ws l d ≡ size_at ws (point_at l (d - 1)).link + left ws l (d - 1)
unfolding left
left_last ws l d h = let up : d ≡ suc (d - 1) = omega arith in ap (left ws l) up

module _ (fq fr : Bool) (ws q : List ℕ) where
  -- and what they have yet to give
  pub waiting : List Point → ℕ → List ℕ
  waiting l zero = []
  waiting l (suc k) = hits_at fq fr ws q (point_at l k) ++ waiting l k

  waiting_same : (l l' : List Point) (k : ℕ) → ((j : ℕ) → j < k → point_at l' j ≡ point_at l j) → waiting l' k ≡ waiting l k
  unfolding waiting
  waiting_same l l' zero h = refl
  waiting_same l l' (suc k) h = ap₂ (λ (x : Point) (y : List ℕ). hits_at fq fr ws q x ++ y) (h k (omega arith)) (waiting_same l l' k (λ j i. h j (omega arith)))

  waiting_last : (l : List Point) (d : ℕ) → 0 < d → waiting l d ≡ hits_at fq fr ws q (point_at l (d - 1)) ++ waiting l (d - 1)
  unfolding waiting
  waiting_last l d h = let up : d ≡ suc (d - 1) = omega arith in ap (waiting l) up

  -- A point that can be tried, and how deep the tree may be below it.
  pub record Good (p : Point) (level : ℕ) : Type 0 where
    pub ready : Ready fq fr ws q p
    pub high : level + height_at ws p.link ≤ 33

-- What does not change in a search.
pub record Book (ws q : List ℕ) : Type 0 where
  pub passing : Passing ws
  pub whole : IsTerm q
  pub words : (i : ℕ) → get_or ws i 0 < 2 ^ 64

module _ (fq fr : Bool) (ws q : List ℕ) (b : Book ws q) where
  low : (n : ℕ) → Used (view ws).tree n → n < last_link
  low = threads.low ws b.passing

  wq : Terms 1 (blank_form q)
  wq = term_form q b.whole

  bound : Bounded (view ws).tree
  bound = threads.bound ws b.passing b.words

  -- all that there is to find
  pub all : List ℕ
  all = found fq fr (blank_form q) wq (view ws) low b.passing.right bound

  -- what the loop keeps: the marks, the list, and how many stand on it
  pub record Searching (marks₀ marks : List ℕ) (l : List Point) (depth : ℕ) : Type 0 where
    pub long : length l ≡ 36
    pub deep : depth ≤ 34
    pub sofar : List ℕ
    pub marked : Marked ws marks₀ marks sofar
    pub total : sofar ++ waiting fq fr ws q l depth ≡ all
    pub stand : (j : ℕ) → j < depth → Good fq fr ws q (point_at l j) j

  -- ---- the root

  abbrev pub root_of : ℕ → Point
  root_of first = record { link = first; skip = 0; place = 0 }

  module _ (first : ℕ) (e : first ≡ first_of (get_or ws links_at 0)) where
    first_is : first ≡ (view ws).tree.first 0
    first_is = e ∙ ap first_of (sym (get_or-take tree_words ws links_at 0 (omega arith)))

    pub root_hits : hits_at fq fr ws q (record { link = first; skip = 0; place = 0 }) ≡ all
    unfolding hits_at all
    root_hits = ap (λ (x : ℕ). hits (next fq fr) (good fq fr) (view ws).tree (walk_before q 0 0) (trie (view ws).tree x)) first_is

    root_low : height_at ws first ≤ 33
    root_low = subst (λ (x : ℕ). height_at ws x ≤ 33) (sym first_is) (height_root (view ws).tree (threads.tree ws b.passing) bound)

    root_ready : Ready fq fr ws q (root_of first)
    unfolding all
    root_ready = record {
      threaded = record { passing = b.passing; used = λ n f. ((threads.tree ws b.passing).goes (child 0) tt (sym first_is ∙ f)).used };
      words = b.words;
      short = (whole_term q (length q) b.whole).short;
      inside = omega arith;
      few = (let h = root_low in omega arith);
      low = λ n i.
          let x = found_rule fq fr (blank_form q) wq (view ws) low b.passing.right bound n (subst (Memᴰ n) root_hits i) in
          subst (λ (c : ℕ). c < rule_numbers) (ap (view ws).tree.cell (sym x.1)) (b.passing.right.records x.0 x.2).low;
    }

    pub starts : (marks : List ℕ) (l : List Point) → NumberSet marks → length l ≡ 36 → point_at l 0 ≡ record { link = first; skip = 0; place = 0 }
        → Searching marks marks l 1
    unfolding waiting
    starts marks l set long is = record {
      long = long;
      deep = omega arith;
      sofar = [];
      marked = marks_none set;
      total = append-nil _ ∙ ap (hits_at fq fr ws q) is ∙ root_hits;
      stand = λ j h. let z : 0 ≡ j = omega arith in subst (λ (i : ℕ). Good fq fr ws q (point_at l i) i) z
          (subst (λ (p : Point). Good fq fr ws q p 0) (sym is) (record { ready = root_ready; high = (let h = root_low in omega arith) }));
    }

  -- ---- the end

  pub searched : (marks₀ marks nodes : List ℕ) → Marked ws marks₀ marks nodes → nodes ≡ all → Searched fq fr ws q marks₀ marks
  unfolding all
  searched marks₀ marks nodes s whole = record { map = s.map; marks_are = λ k. ((λ x. to k ((s.marks_are k).0 x)), (λ x. (s.marks_are k).1 (of k x))) }
    where
      one : (k n : ℕ) → Memᴰ n nodes → (view ws).tree.cell n ≡ k → Answering fq fr ws q k
      one k n i e =
          let x = found_rule fq fr (blank_form q) wq (view ws) low b.passing.right bound n (subst (Memᴰ n) whole i) in
          record {
            its = rule_at (view ws) x.0;
            held = ap (rules_in ws) (sym e ∙ ap (view ws).tree.cell x.1) ∙ at_holds (view ws) low b.passing.right x.0 x.2;
            accepted = x.3;
          }

      to : (k : ℕ) → Member marks₀ k ⊎ ((n : ℕ) × Memᴰ n nodes × ((view ws).tree.cell n ≡ k)) → Member marks₀ k ⊎ Answering fq fr ws q k
      to k (inl x) = inl x
      to k (inr x) = inr (one k x.0 x.1 x.2)

      of : (k : ℕ) → Member marks₀ k ⊎ Answering fq fr ws q k → Member marks₀ k ⊎ ((n : ℕ) × Memᴰ n nodes × ((view ws).tree.cell n ≡ k))
      of k (inl x) = inl x
      of k (inr x) =
          let a = holds_at (view ws) k x.its x.held in
          let yes = ap (λ (r : Rule). done (run fq fr (at 0 (blank_form q)) (blank_form r.term))) a.is ∙ x.accepted in
          let i = rule_found fq fr (blank_form q) wq (view ws) low b.passing.right bound a.place a.used yes in
          inr (nodes_limit + a.place, subst (Memᴰ (nodes_limit + a.place)) (sym whole) i, a.has)

-- the loop's invariant
abbrev pub Loop : Bool → Bool → (ws q marks₀ marks : List ℕ) → List Point → ℕ → Type 0
Loop fq fr ws q marks₀ marks l depth = (b : Book ws q) × Searching fq fr ws q b marks₀ marks l depth

-- the loop begins at the root
pub starts_out : (fq fr : Bool) (ws q marks : List ℕ) (l : List Point) → Passing ws → IsTerm q → NumberSet marks → Rooted ws l → Loop fq fr ws q marks marks l 1
starts_out fq fr ws q marks l pass whole set r =
    let b : Book ws q = record { passing = pass; whole = whole; words = r.root.words } in
    (b, starts fq fr ws q b (first_of (get_or ws links_at 0)) refl marks l set r.long r.root.is)

-- The loop after a turn: its invariant holds again, and there is less left.
pub record Again (fq fr : Bool) (ws q marks₀ : List ℕ) (l : List Point) (depth : ℕ) (marks' : List ℕ) (l' : List Point) (depth' : ℕ) : Type 0 where
  pub again : Loop fq fr ws q marks₀ marks' l' depth'
  pub fewer : left ws l' depth' < left ws l depth

module _ (fq fr : Bool) (ws q marks₀ marks : List ℕ) (l : List Point) (depth : ℕ) (i : Loop fq fr ws q marks₀ marks l depth) where
  abbrev s : Searching fq fr ws q i.0 marks₀ marks l depth
  s = i.1

  -- none stands
  pub ends : depth ≤ 0 → Searched fq fr ws q marks₀ marks
  unfolding waiting
  ends h = let z : depth ≡ 0 = omega arith in
      searched fq fr ws q i.0 marks₀ marks s.sofar s.marked (sym (append-nil s.sofar) ∙ ap (λ (d : ℕ). s.sofar ++ waiting fq fr ws q l d) (sym z) ∙ s.total)

  module _ (h : 0 < depth) where
    abbrev p : Point
    p = point_at l (depth - 1)

    last : Good fq fr ws q p (depth - 1)
    last = s.stand (depth - 1) (omega arith)

    -- after a turn some nodes more are marked
    module _ (marks' nodes : List ℕ) (m : Marked ws marks marks' nodes) where
      marked' : Marked ws marks₀ marks' (s.sofar ++ nodes)
      marked' = marks_on ws marks₀ marks marks' s.sofar nodes s.marked m

      abbrev rest : List ℕ
      rest = waiting fq fr ws q l (depth - 1)

      total' : (x y : List ℕ) → hits_at fq fr ws q p ≡ nodes ++ x → x ++ rest ≡ y → (s.sofar ++ nodes) ++ y ≡ all fq fr ws q i.0
      total' x y e f =
          ap (λ (z : List ℕ). (s.sofar ++ nodes) ++ z) (sym f) ∙ append_assoc s.sofar nodes (x ++ rest)
          ∙ ap (λ (z : List ℕ). s.sofar ++ z)
          (sym (append_assoc nodes x rest) ∙ ap (λ (z : List ℕ). z ++ rest) (sym e) ∙ sym (waiting_last fq fr ws q l depth h)) ∙ s.total

      -- nothing is left of the last point, and it goes
      goes_away : hits_at fq fr ws q p ≡ nodes → Again fq fr ws q marks₀ l depth marks' l (depth - 1)
      goes_away e = record {
        again = (
          i.0,
          record {
            long = s.long;
            deep = (let d = s.deep in omega arith);
            sofar = s.sofar ++ nodes;
            marked = marked';
            total = total' [] _ (e ∙ sym (append-nil nodes)) refl;
            stand = λ j a. s.stand j (omega arith);
          },
        );
        fewer = (let c = left_last ws l depth h in let d = positive (trie (view ws).tree p.link) in omega arith);
      }

      -- three points stand in its place
      module _ (r : Rest) (t : Parts fq fr ws q p nodes (point r.below) (point r.beside) (point r.waits)) where
        abbrev one : List Point
        one = set l (depth - 1) (point r.waits)

        abbrev two : List Point
        two = set (set l (depth - 1) (point r.waits)) depth (point r.beside)

        abbrev l' : List Point
        l' = set (set (set l (depth - 1) (point r.waits)) depth (point r.beside)) (depth + 1) (point r.below)

        long' : length l' ≡ 36
        long' = length-set two (depth + 1) (point r.below) ∙ length-set one depth (point r.beside) ∙ length-set l (depth - 1) (point r.waits) ∙ s.long

        -- the points before it stay
        others : (j : ℕ) → j < depth - 1 → point_at l' j ≡ point_at l j
        others j a = get_or-set_other two (depth + 1) j (point r.below) _ (λ e. omega arith) ∙ get_or-set_other one depth j (point r.beside) _ (λ e. omega arith)
            ∙ get_or-set_other l (depth - 1) j (point r.waits) _ (λ e. omega arith)

        waits_is : point_at l' (depth - 1) ≡ (point r.waits)
        waits_is = get_or-set_other two (depth + 1) (depth - 1) (point r.below) _ (λ e. omega arith)
            ∙ get_or-set_other one depth (depth - 1) (point r.beside) _ (λ e. omega arith) ∙ get_or-set_same l (depth - 1) (point r.waits) _ (let d = s.deep in omega (arith, s.long))

        beside_is : point_at l' depth ≡ (point r.beside)
        beside_is = get_or-set_other two (depth + 1) depth (point r.below) _ (λ e. omega arith)
            ∙ get_or-set_same one depth (point r.beside) _ (let d = s.deep in omega (arith, s.long, length-set l (depth - 1) (point r.waits)))

        below_is : point_at l' (suc depth) ≡ (point r.below)
        below_is = let up : suc depth ≡ depth + 1 = omega arith in
            ap (point_at l') up ∙ get_or-set_same two (depth + 1) (point r.below) _
            (let d = s.deep in omega (arith, s.long, length-set l (depth - 1) (point r.waits), length-set one depth (point r.beside)))

        stand' : (j : ℕ) → j < depth - 1 → Good fq fr ws q (point_at l' j) j
        stand' j a = subst (λ (x : Point). Good fq fr ws q x j) (sym (others j a)) (s.stand j (omega arith))

        abbrev below : List ℕ
        below = hits_at fq fr ws q (point r.below)

        abbrev beside : List ℕ
        beside = hits_at fq fr ws q (point r.beside)

        abbrev waits : List ℕ
        waits = hits_at fq fr ws q (point r.waits)

        comes_apart : Again fq fr ws q marks₀ l depth marks' l' (suc (suc depth))
        unfolding waiting left
        comes_apart = record {
          again = (
            i.0,
            record {
              long = long';
              deep = (let a = last.high in let c = t.deepest in omega arith);
              sofar = s.sofar ++ nodes;
              marked = marked';
              total = total' _ _ t.gives (append_assoc below (beside ++ waits) rest
                  ∙ ap₂ (λ (x : Point) (y : List ℕ). hits_at fq fr ws q x ++ y) (sym below_is)
                  (append_assoc beside waits rest ∙ ap₂ (λ (x : Point) (y : List ℕ). hits_at fq fr ws q x ++ y) (sym beside_is) (sym first)));
              stand = λ j a. stands j (ℕ_discrete j (suc depth)) (ℕ_discrete j depth) (ℕ_discrete j (depth - 1)) a;
            },
          );
          fewer =
              let a = left_same ws l l' (depth - 1) others in
              let c = left_last ws l depth h in
              let d = left_last ws l' depth h in
              let e = ap (λ (x : Point). size_at ws x.link) below_is in
              let f = ap (λ (x : Point). size_at ws x.link) beside_is in
              let k = ap (λ (x : Point). size_at ws x.link) waits_is in
              let g = t.fewer in
              omega arith;
        }
          where
            first : waiting fq fr ws q l' depth ≡ waits ++ rest
            first = waiting_last fq fr ws q l' depth h
                ∙ ap₂ (λ (x : Point) (y : List ℕ). hits_at fq fr ws q x ++ y) waits_is (waiting_same fq fr ws q l l' (depth - 1) others)

            good : {x y : Point} {level : ℕ} → x ≡ y → Ready fq fr ws q y → level + height_at ws y.link ≤ 33 → Good fq fr ws q x level
            good {level = level} e r high = subst (λ (x : Point). Good fq fr ws q x level) (sym e) (record { ready = r; high = high })

            stands : (j : ℕ) → Dec (j ≡ suc depth) → Dec (j ≡ depth) → Dec (j ≡ depth - 1) → j < suc (suc depth) → Good fq fr ws q (point_at l' j) j
            stands j (yes e) f g a = subst (λ (i : ℕ). Good fq fr ws q (point_at l' i) i) (sym e)
                (good below_is t.below_ready (let b = last.high in let c = t.deepest in omega arith))
            stands j (no e) (yes f) g a = subst (λ (i : ℕ). Good fq fr ws q (point_at l' i) i) (sym f)
                (good beside_is t.beside_ready (let b = last.high in let c = t.deeper in omega arith))
            stands j (no e) (no f) (yes g) a = subst (λ (i : ℕ). Good fq fr ws q (point_at l' i) i) (sym g)
                (good waits_is t.waits_ready (let b = last.high in let c = t.level in omega arith))
            stands j (no e) (no f) (no g) a = stand' j (omega arith)

  -- the last point is taken from the list
  module _ {a b : Points} {o : Way} (has : a.list.now ≡ l) (deep : a.depth ≡ depth) (t : Pops a b (Some o)) where
    stands : 0 < depth
    stands = let e = t.taken.0 in omega arith

    left_depth : depth - 1 ≡ b.depth
    left_depth = let e = t.taken.0 in omega arith

    left_list : l ≡ b.list.now
    left_list = sym has ∙ sym (ap (λ (z : MutBor (List Point)). z.now) t.same)

    its : point o ≡ point_at l (depth - 1)
    its = t.taken.1 ∙ ap₂ point_at has (sym left_depth)

    pub stood : Steady fq fr ws q marks (point o)
    stood = subst (Steady fq fr ws q marks) (sym its) (record { ready = (last stands).ready; map = s.marked.map })

    -- a turn leaves nothing of it
    pub goes : {marks' : List ℕ} → Went fq fr ws q marks marks' (point o) None → Again fq fr ws q marks₀ l depth marks' b.list.now b.depth
    goes {marks'} w =
        let v = subst (λ (z : Point). Went fq fr ws q marks marks' z None) its w in
        subst (λ (z : List Point). Again fq fr ws q marks₀ l depth marks' z b.depth) left_list
        (subst (Again fq fr ws q marks₀ l depth marks' l) left_depth (goes_away stands marks' v.nodes v.marked v.goes))

    -- or three points, which are put in its place
    pub turned : {marks' : List ℕ} {r : Rest} {c d e : Points} → Went fq fr ws q marks marks' (point o) (Some r) → Pushes b c r.waits → Pushes c d r.beside → Pushes d e r.below
        → Again fq fr ws q marks₀ l depth marks' e.list.now e.depth
    turned {marks'} {r} {c} {d} {e} w x y z =
        let v = subst (λ (u : Point). Went fq fr ws q marks marks' u (Some r)) its w in
        let dc : c.depth ≡ depth = omega (arith, x.depth, left_depth, stands) in
        let dd : d.depth ≡ depth + 1 = omega (arith, y.depth, dc) in
        let de : suc (suc depth) ≡ e.depth = omega (arith, z.depth, dd) in
        let lc = x.list ∙ ap₂ (λ (u : List Point) (n : ℕ). set u n (point r.waits)) (sym left_list) (sym left_depth) in
        let ld = y.list ∙ ap₂ (λ (u : List Point) (n : ℕ). set u n (point r.beside)) lc dc in
        let le = z.list ∙ ap₂ (λ (u : List Point) (n : ℕ). set u n (point r.below)) ld dd in
        subst (λ (u : List Point). Again fq fr ws q marks₀ l depth marks' u e.depth) (sym le)
        (subst (Again fq fr ws q marks₀ l depth marks' (set (set (set l (depth - 1) (point r.waits)) depth (point r.beside)) (depth + 1) (point r.below))) de
        (comes_apart stands marks' v.nodes v.marked r v.goes.0))

  -- none stands there
  pub none_left : {a b : Points} → a.depth ≡ depth → Pops a b None → Searched fq fr ws q marks₀ marks
  none_left e t = let z = t.taken.0 in ends (omega arith)
