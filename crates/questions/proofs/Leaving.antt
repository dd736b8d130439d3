-- What a node leaves to be tried: the trie at its link opens to what is below it and what is beside it.
use mathlib.Core.Path.{◌≡◌, refl, sym, ap, ap₂, ◌∙◌, subst}
use mathlib.Core.List.Memᴰ
use mathlib.Core.List.{List, [], ◌++◌, append-nil, Memᴰ}
use mathlib.Core.Bool.{Bool, true}
use Prim.Native.Nat.{ℕ, suc, zero, ◌+◌, ◌-◌, ◌^◌, ◌≤◌, ◌<◌}
use native.Mathlib.Omega.{arith}
use lib.ListN.{length, get_or, drop}
use Rattle.std.proofs.Common.{Option, Some, None}
use Rattle.layout.specs.Layout.{links_at}
use Rattle.term.specs.Cells.{arity, blank_of, blank_form}
use Rattle.term.specs.Machine.{failed, at}
use Rattle.term.specs.declared.machine.Spot.{Spot}
use Rattle.term.specs.Steps.{state_of, Stepped}
use Rattle.shape.specs.Shape.{child, Used}
use Rattle.links.specs.Words.{cell_of, first_of, next_of}
use Rattle.shape.specs.Trie.{Trie, tip, node, trie, height, FUEL}
use Rattle.shape.specs.Search.{keep, hits, size}
use Rattle.shape.specs.Unfolded.{no_trie, opens}
use Rattle.book.specs.Memory.{view}
use Rattle.questions.specs.declared.Point.{Point}
use Rattle.questions.specs.declared.trying.Way.{Way}
use Rattle.questions.specs.declared.trying.Ways.{Ways}
use Rattle.questions.specs.Walk.{Walk, reading, next, good, failed_none}
use Rattle.questions.specs.Promises.{walk_before, walk_after, Skips, stay, skip_on, Threaded, size_at, height_at, hits_at, Ready, AtNode, no_node, its_node, point, point_of, HasNode, linked, way_beside, Splits, Leaves, Left, PassesNode}
use Rattle.questions.proofs.Siblings.{any_met, met_step}
use Rattle.questions.proofs.Threads.{tree, bound, word_of, beside_threaded}

pub positive : (t : Trie) → 0 < size t
positive tip = omega arith
positive (node n a b) = omega arith

-- no link, no node
pub tip_at : (ws : List ℕ) → trie (view ws).tree 0 ≡ tip
tip_at ws = no_trie (view ws).tree FUEL

pub nothing_at : (fq fr : Bool) (ws q : List ℕ) (p : Point) → p.link ≡ 0 → hits_at fq fr ws q p ≡ []
unfolding hits_at
nothing_at fq fr ws q p z = ap (λ (t : Trie). hits (next fq fr) (good fq fr) (view ws).tree (walk_before q p.skip p.place) t)
    (ap (trie (view ws).tree) z ∙ tip_at ws)

-- a node in use: x is its link, w its word
module _ (ws : List ℕ) (words : (i : ℕ) → get_or ws i 0 < 2 ^ 64) (x : ℕ) (t : Threaded ws x) (some : ¬ (x ≡ 0)) where
  pub n : ℕ
  n = x - 1

  is : x ≡ suc n
  unfolding n
  is = omega arith

  used : Used (view ws).tree n
  used = t.used n is

  abbrev w : ℕ
  w = get_or ws (links_at + x) 0

  pub cell_is : (view ws).tree.cell n ≡ cell_of (get_or ws (links_at + x) 0)
  cell_is = ap cell_of (word_of ws t.passing n used) ∙ ap (λ (k : ℕ). cell_of (get_or ws (links_at + k) 0)) (sym is)

  first_is : (view ws).tree.first (suc n) ≡ first_of w
  first_is = ap first_of (word_of ws t.passing n used) ∙ ap (λ (k : ℕ). first_of (get_or ws (links_at + k) 0)) (sym is)

  next_is : (view ws).tree.next n ≡ next_of w
  next_is = ap next_of (word_of ws t.passing n used) ∙ ap (λ (k : ℕ). next_of (get_or ws (links_at + k) 0)) (sym is)

  pub opened : trie (view ws).tree x ≡ node n (trie (view ws).tree (first_of (get_or ws (links_at + x) 0))) (trie (view ws).tree (next_of (get_or ws (links_at + x) 0)))
  opened =
      ap (trie (view ws).tree) is ∙ opens (view ws).tree (tree ws t.passing) (bound ws t.passing words) n used
      ∙ ap₂ (λ (a b : ℕ). node n (trie (view ws).tree a) (trie (view ws).tree b)) first_is next_is

  pub child_threaded : Threaded ws (first_of (get_or ws (links_at + x) 0))
  child_threaded = record { passing = t.passing; used = λ y e. ((tree ws t.passing).goes (child (suc n)) used (first_is ∙ e)).used }

  pub sizes : size_at ws x ≡ suc (size_at ws (first_of (get_or ws (links_at + x) 0)) + size_at ws (next_of (get_or ws (links_at + x) 0)))
  sizes = ap size opened

  pub below_height : height_at ws (first_of (get_or ws (links_at + x) 0)) < height_at ws x
  below_height = let h = ap height opened in omega arith

  pub beside_height : height_at ws (next_of (get_or ws (links_at + x) 0)) ≤ height_at ws x
  beside_height = let h = ap height opened in omega arith

  module _ (fq fr : Bool) (q : List ℕ) (skip place : ℕ) where
    here : hits (next fq fr) (good fq fr) (view ws).tree (walk_before q skip place) (trie (view ws).tree x)
        ≡ keep (good fq fr (walk_after fq fr q w skip place)) n
        ++ (hits (next fq fr) (good fq fr) (view ws).tree (walk_after fq fr q w skip place) (trie (view ws).tree (first_of w))
        ++ hits (next fq fr) (good fq fr) (view ws).tree (walk_before q skip place) (trie (view ws).tree (next_of w)))
    here =
        ap (hits (next fq fr) (good fq fr) (view ws).tree (walk_before q skip place)) opened
        ∙ ap (λ (c : ℕ). keep (good fq fr (next fq fr c (walk_before q skip place))) n
        ++ (hits (next fq fr) (good fq fr) (view ws).tree (next fq fr c (walk_before q skip place)) (trie (view ws).tree (first_of w))
        ++ hits (next fq fr) (good fq fr) (view ws).tree (walk_before q skip place) (trie (view ws).tree (next_of w)))) cell_is

    -- the machine goes on
    pub on_gives : (skip' place' : ℕ) → walk_after fq fr q (get_or ws (links_at + x) 0) skip place ≡ walk_before q skip' place'
        → hits_at fq fr ws q (record { link = x; skip = skip; place = place })
        ≡ hits_at fq fr ws q (record { link = first_of (get_or ws (links_at + x) 0); skip = skip'; place = place' })
        ++ hits_at fq fr ws q (record { link = next_of (get_or ws (links_at + x) 0); skip = skip; place = place })
    unfolding hits_at
    on_gives skip' place' e =
        here ∙ ap (λ (s : Walk). keep (good fq fr s) n
        ++ (hits (next fq fr) (good fq fr) (view ws).tree s (trie (view ws).tree (first_of w))
        ++ hits (next fq fr) (good fq fr) (view ws).tree (walk_before q skip place) (trie (view ws).tree (next_of w)))) e

    -- it fails
    pub fail_gives : walk_after fq fr q (get_or ws (links_at + x) 0) skip place ≡ reading failed
        → hits_at fq fr ws q (record { link = x; skip = skip; place = place })
        ≡ hits_at fq fr ws q (record { link = next_of (get_or ws (links_at + x) 0); skip = skip; place = place })
    unfolding hits_at
    fail_gives e =
        here ∙ ap (λ (s : Walk). keep (good fq fr s) n
        ++ (hits (next fq fr) (good fq fr) (view ws).tree s (trie (view ws).tree (first_of w))
        ++ hits (next fq fr) (good fq fr) (view ws).tree (walk_before q skip place) (trie (view ws).tree (next_of w)))) e
        ∙ ap (λ (l : List ℕ). l ++ hits (next fq fr) (good fq fr) (view ws).tree (walk_before q skip place) (trie (view ws).tree (next_of w)))
        (failed_none fq fr (view ws).tree (trie (view ws).tree (first_of w)))

-- ---- the points that are left

-- the way to a sibling, by the link that the memory has
at_beside : (p : Point) (link : ℕ) (o : Option ℕ) → o ≡ linked link → AtNode (record { link = link; skip = p.skip; place = p.place }) (way_beside p o)
at_beside p link o e = subst (λ (z : Option ℕ). AtNode (record { link = link; skip = p.skip; place = p.place }) (way_beside p z)) (sym e) (by link)
  where
    by : (n : ℕ) → AtNode (record { link = n; skip = p.skip; place = p.place }) (way_beside p (linked n))
    by zero = no_node refl
    by (suc n) = its_node (λ z. omega arith)

-- a point at its node, or none where there is none: the link is the same, and so is what is found
pub at_link : {p : Way} {o : Option Way} → AtNode p o → (point_of o).link ≡ p.link
at_link (no_node z) = sym z
at_link (its_node n) = refl

pub at_has : {p : Way} {o : Option Way} → AtNode p o → HasNode o
at_has (no_node z) = tt
at_has (its_node n) = n

pub at_hits : (fq fr : Bool) (ws q : List ℕ) {p : Way} {o : Option Way} → AtNode p o → hits_at fq fr ws q (point p) ≡ hits_at fq fr ws q (point_of o)
at_hits fq fr ws q {p} (no_node z) = nothing_at fq fr ws q (point p) z ∙ sym (nothing_at fq fr ws q (record { link = 0; skip = 0; place = 0 }) refl)
at_hits fq fr ws q (its_node n) = refl

module _ {fq fr : Bool} {ws q : List ℕ} where
  -- a point without a node
  pub no_point : {p : Point} → Ready fq fr ws q p → Ready fq fr ws q (record { link = 0; skip = 0; place = 0 })
  no_point r = record {
    threaded = record { passing = r.threaded.passing; used = λ n e. absurd (omega arith) };
    words = r.words;
    short = r.short;
    inside = omega arith;
    few = (let h = ap height (tip_at ws) in omega arith);
    low = λ n i. absurd (Memᴰ.not-nil (subst (Memᴰ n) (nothing_at fq fr ws q (record { link = 0; skip = 0; place = 0 }) refl) i));
  }

  pub at_ready : {p : Way} {o : Option Way} → AtNode p o → Ready fq fr ws q (point p) → Ready fq fr ws q (point_of o)
  at_ready (no_node z) r = no_point r
  at_ready (its_node n) r = r

  -- the points themselves may be left in place of what stands at their links
  settled : {p : Point} {nodes : List ℕ} {below beside : Way} {v v' : Option Way} → Splits fq fr ws q p nodes (point below) (point beside) → AtNode below v → AtNode beside v'
      → Leaves fq fr ws q p nodes v v'
  settled {p} {nodes} s b a =
      let eb = ap (size_at ws) (at_link b) in
      let ea = ap (size_at ws) (at_link a) in
      let hb = ap (height_at ws) (at_link b) in
      let ha = ap (height_at ws) (at_link a) in
      record {
        splits = record {
          gives = s.gives ∙ ap₂ (λ (x y : List ℕ). nodes ++ (x ++ y)) (at_hits fq fr ws q b) (at_hits fq fr ws q a);
          fewer = (let f = s.fewer in omega arith);
          deeper = (let f = s.deeper in omega arith);
          level = (let f = s.level in omega arith);
          below_ready = at_ready b s.below_ready;
          beside_ready = at_ready a s.beside_ready;
        };
        below_node = at_has b;
        beside_node = at_has a;
      }

module _ {fq fr : Bool} {ws q : List ℕ} {p : Point} (r : Ready fq fr ws q p) (some : ¬ (p.link ≡ 0)) where
  abbrev none : Point
  none = record { link = 0; skip = 0; place = 0 }

  -- nothing is left but the nodes
  pub all_gone : {nodes : List ℕ} → hits_at fq fr ws q p ≡ nodes → Leaves fq fr ws q p nodes None None
  all_gone {nodes} e = record {
    splits = record {
      gives = e ∙ sym (append-nil nodes)
          ∙ ap (λ (l : List ℕ). nodes ++ l) (sym (ap₂ ◌++◌ (nothing_at fq fr ws q none refl) (nothing_at fq fr ws q none refl)));
      fewer = (let s = sizes ws r.words p.link r.threaded some in
          let a = positive (trie (view ws).tree (first_of (get_or ws (links_at + p.link) 0))) in
          let b = positive (trie (view ws).tree (next_of (get_or ws (links_at + p.link) 0))) in
          let z = ap size (tip_at ws) in omega arith);
      deeper = (let h = below_height ws r.words p.link r.threaded some in let z = ap height (tip_at ws) in omega arith);
      level = (let z = ap height (tip_at ws) in omega arith);
      below_ready = no_point r;
      beside_ready = no_point r;
    };
    below_node = tt;
    beside_node = tt;
  }

  -- the points that it leaves: beside, and below where the machine goes on
  abbrev next_way : Way
  next_way = record { link = next_of (get_or ws (links_at + p.link) 0); skip = p.skip; place = p.place }

  abbrev first_way : ℕ → ℕ → Way
  first_way skip place = record { link = first_of (get_or ws (links_at + p.link) 0); skip = skip; place = place }

  beside_readies : ((n : ℕ) → Memᴰ n (hits_at fq fr ws q (point next_way)) → Memᴰ n (hits_at fq fr ws q p)) → Ready fq fr ws q (point next_way)
  beside_readies among = record {
    threaded = beside_threaded ws p.link r.threaded some;
    words = r.words;
    short = r.short;
    inside = r.inside;
    few = (let h = beside_height ws r.words p.link r.threaded some in let f = r.few in omega arith);
    low = λ n i. r.low n (among n i);
  }

  -- the machine goes on to the first child
  goes_on : (skip place : ℕ) → walk_after fq fr q (get_or ws (links_at + p.link) 0) p.skip p.place ≡ walk_before q skip place → place ≤ length q
      → skip ≤ p.skip + 7 → Splits fq fr ws q p [] (point (first_way skip place)) (point next_way)
  goes_on skip place walk inside few = record {
    gives = both;
    fewer = (let s = sizes ws r.words p.link r.threaded some in omega arith);
    deeper = below_height ws r.words p.link r.threaded some;
    level = beside_height ws r.words p.link r.threaded some;
    below_ready = record {
      threaded = child_threaded ws r.words p.link r.threaded some;
      words = r.words;
      short = r.short;
      inside = inside;
      few = (let h = below_height ws r.words p.link r.threaded some in let f = r.few in omega arith);
      low = λ n i. r.low n (subst (Memᴰ n) (sym both) (Memᴰ.append_left _ i));
    };
    beside_ready = beside_readies (λ n i. subst (Memᴰ n) (sym both) (Memᴰ.append_right (hits_at fq fr ws q (point (first_way skip place))) i));
  }
    where
      both : hits_at fq fr ws q p ≡ hits_at fq fr ws q (point (first_way skip place)) ++ hits_at fq fr ws q (point next_way)
      both = on_gives ws r.words p.link r.threaded some fq fr q p.skip p.place skip place walk

  -- it fails
  stops : walk_after fq fr q (get_or ws (links_at + p.link) 0) p.skip p.place ≡ reading failed → Splits fq fr ws q p [] none (point next_way)
  stops walk = record {
    gives = same ∙ sym (ap (λ (l : List ℕ). l ++ hits_at fq fr ws q (point next_way)) (nothing_at fq fr ws q none refl));
    fewer = (let s = sizes ws r.words p.link r.threaded some in
        let a = positive (trie (view ws).tree (first_of (get_or ws (links_at + p.link) 0))) in
        let z = ap size (tip_at ws) in omega arith);
    deeper = (let h = below_height ws r.words p.link r.threaded some in let z = ap height (tip_at ws) in omega arith);
    level = beside_height ws r.words p.link r.threaded some;
    below_ready = no_point r;
    beside_ready = beside_readies (λ n i. subst (Memᴰ n) (sym same) i);
  }
    where
      same : hits_at fq fr ws q p ≡ hits_at fq fr ws q (point next_way)
      same = fail_gives ws r.words p.link r.threaded some fq fr q p.skip p.place walk

-- a node is passed
passed_walk : (fq fr : Bool) (q : List ℕ) (c skip place s : ℕ) → 0 < skip → s ≡ skip - 1 + arity (blank_of c)
    → next fq fr c (walk_before q skip place) ≡ walk_before q s place
passed_walk fq fr q c zero place s h e = absurd (omega arith)
passed_walk fq fr q c (suc k) place s h e = ap (λ (y : ℕ). reading (at y (drop place (blank_form q)))) (omega (arith, e))

module _ {fq fr : Bool} {ws q : List ℕ} {p : Way} {v : Ways} (r : Ready fq fr ws q (point p)) (some : ¬ (p.link ≡ 0)) where
  pub passing : 0 < p.skip → PassesNode ws p (p.skip - 1) p.place v → Left fq fr ws q (point p) [] v
  passing h a = settled {below = first_way r some a.skip p.place} {beside = next_way r some}
      (goes_on r some a.skip p.place
      (passed_walk fq fr q (cell_of (get_or ws (links_at + p.link) 0)) p.skip p.place a.skip h a.skip_is) r.inside (let f = a.few in omega arith))
      a.below (at_beside (point p) (next_of (get_or ws (links_at + p.link) 0)) v.beside a.beside)

  -- the question's cell is filled with the node's
  pub filling : p.skip ≤ 0 → p.place < length q → fq ≡ true → 32768 ≤ get_or q p.place 0 → PassesNode ws p 0 (p.place + 1) v → Left fq fr ws q (point p) [] v
  filling z h f l a =
      let none : p.skip ≡ 0 = omega arith in
      let one : suc p.place ≡ p.place + 1 = omega arith in
      let all : arity (blank_of (cell_of (get_or ws (links_at + p.link) 0))) ≡ a.skip = omega (arith, a.skip_is) in
      settled {below = first_way r some a.skip (p.place + 1)} {beside = next_way r some}
      (goes_on r some a.skip (p.place + 1)
      (ap (λ (k : ℕ). next fq fr (cell_of (get_or ws (links_at + p.link) 0)) (walk_before q k p.place)) none
      ∙ any_met fq fr q p.place (cell_of (get_or ws (links_at + p.link) 0)) h f l ∙ ap₂ (walk_before q) all one)
      (omega arith) (let f = a.few in omega arith))
      a.below (at_beside (point p) (next_of (get_or ws (links_at + p.link) 0)) v.beside a.beside)

-- ---- siblings that are skipped

abbrev moved : Point → ℕ → Point
moved p x = record { link = x; skip = p.skip; place = p.place }

-- The point can be tried as well at a link to which it may skip: the same is found there, and there is no more behind it.
pub record Skipped (fq fr : Bool) (ws q : List ℕ) (p : Point) (x : ℕ) : Type 0 where
  pub ready : Ready fq fr ws q (record { link = x; skip = p.skip; place = p.place })
  pub same : hits_at fq fr ws q p ≡ hits_at fq fr ws q (record { link = x; skip = p.skip; place = p.place })
  pub small : size_at ws x ≤ size_at ws p.link
  pub level : height_at ws x ≤ height_at ws p.link

module _ {fq fr : Bool} {ws q : List ℕ} {p : Point} (r : Ready fq fr ws q p) where
  pub skipped : p.skip ≤ 0 → {x : ℕ} → Skips fq fr ws q p.place p.link x → Skipped fq fr ws q p x
  skipped z stay = record { ready = r; same = refl; small = omega arith; level = omega arith }
  skipped z (skip_on {x} before some fails) = on (skipped z before)
    where
      none : 0 ≡ p.skip
      none = omega arith

      on : Skipped fq fr ws q p x → Skipped fq fr ws q p (next_of (get_or ws (links_at + x) 0))
      on s =
          let l = stops s.ready some
          (subst (λ (k : ℕ). walk_after fq fr q (get_or ws (links_at + x) 0) k p.place ≡ reading failed) none fails) in
          record {
            ready = l.beside_ready;
            same = s.same ∙ l.gives ∙ ap (λ (y : List ℕ). y ++ hits_at fq fr ws q (moved p (next_of (get_or ws (links_at + x) 0))))
                (nothing_at fq fr ws q (record { link = 0; skip = 0; place = 0 }) refl);
            small = (let a = s.small in let b = l.fewer in omega arith);
            level = (let a = s.level in let b = l.level in omega arith);
          }

  -- what is left at the link to which it skipped is left at the point
  left_after : {x : ℕ} {v v' : Option Way} → Skipped fq fr ws q p x → Leaves fq fr ws q (record { link = x; skip = p.skip; place = p.place }) [] v v'
      → Leaves fq fr ws q p [] v v'
  left_after s l = record {
    splits = record {
      gives = s.same ∙ l.splits.gives;
      fewer = (let a = s.small in let b = l.splits.fewer in omega arith);
      deeper = (let a = s.level in let b = l.splits.deeper in omega arith);
      level = (let a = s.level in let b = l.splits.level in omega arith);
      below_ready = l.splits.below_ready;
      beside_ready = l.splits.beside_ready;
    };
    below_node = l.below_node;
    beside_node = l.beside_node;
  }

  -- two cells meet, at the first node from the point on
  module _ (some : ¬ (p.link ≡ 0)) (z : p.skip ≤ 0) (h : p.place < length q) {x : ℕ} (k : Skips fq fr ws q p.place p.link x) where
    pub meets_none : x ≡ 0 → Leaves fq fr ws q p [] None None
    meets_none e = all_gone r some ((skipped z k).same ∙ nothing_at fq fr ws q (moved p x) e)

    module _ (nz : ¬ (x ≡ 0)) {c : ℕ} (ec : c ≡ cell_of (get_or ws (links_at + x) 0)) {m : Option Spot} (s : Stepped fq fr q c 0 p.place m) {b : Option ℕ} (eb : b ≡ linked (next_of (get_or ws (links_at + x) 0))) where
      walk : walk_after fq fr q (get_or ws (links_at + x) 0) p.skip p.place ≡ reading (state_of q m)
      walk =
          let none : p.skip ≡ 0 = omega arith in
          ap (λ (y : ℕ). walk_after fq fr q (get_or ws (links_at + x) 0) y p.place) none
          ∙ ap (λ (y : ℕ). next fq fr y (walk_before q 0 p.place)) (sym ec) ∙ met_step fq fr q p.place c h ∙ ap reading (sym s.is)

      pub meets_on : {t : Spot} {d : Option Way} → m ≡ Some t → AtNode (record { link = first_of (get_or ws (links_at + x) 0); skip = t.skip; place = t.place }) d
          → Leaves fq fr ws q p [] d (way_beside p b)
      meets_on {t} e ed =
          let on = subst (Stepped fq fr q c 0 p.place) e s in
          left_after (skipped z k)
          (settled {below = first_way (skipped z k).ready nz t.skip t.place} {beside = next_way (skipped z k).ready nz}
          (goes_on (skipped z k).ready nz t.skip t.place
          (walk ∙ ap (λ (y : Option Spot). reading (state_of q y)) e) on.inside (let f = on.few in omega arith)) ed (at_beside p _ b eb))

      pub meets_not : m ≡ None → Leaves fq fr ws q p [] None (way_beside p b)
      meets_not e = left_after (skipped z k)
          (settled {below = record { link = 0; skip = 0; place = 0 }} {beside = next_way (skipped z k).ready nz}
          (stops (skipped z k).ready nz (walk ∙ ap (λ (y : Option Spot). reading (state_of q y)) e)) (no_node refl) (at_beside p _ b eb))
