-- A turn: what was found so far, and what the point at hand and the one that waits have yet to give, is all that is found from the point with which it begins.
use mathlib.Core.Path.{◌≡◌, refl, sym, ap, ap₂, ◌∙◌, subst}
use mathlib.Core.List.{[], List, ◌++◌, append-nil, append_assoc}
use mathlib.Core.Bool.{Bool}
use Prim.Native.Nat.{ℕ, ◌+◌, ◌≤◌, ◌<◌}
use native.Mathlib.Omega.{arith}
use Rattle.std.proofs.Common.{Option, Some, None}
use Rattle.std.proofs.lemmas.Option.{none-some}
use Rattle.bits.specs.Numbers.{NumberSet}
use Rattle.shape.specs.Trie.{trie, height}
use Rattle.shape.specs.Search.{size}
use Rattle.book.specs.Memory.{view}
use Rattle.questions.specs.declared.Point.{Point}
use Rattle.questions.specs.declared.trying.Way.{Way}
use Rattle.questions.specs.declared.trying.Ways.{Ways}
use Rattle.questions.specs.Promises.{size_at, height_at, hits_at, Ready, Marked, AtNode, Small, point, point_of, HasNode, way_beside, Leaves, Tried, Went}
use Rattle.questions.proofs.Leaving.{positive, tip_at, nothing_at, no_point, at_hits, at_ready, at_link, at_has}
use Rattle.questions.proofs.Threads.{in_tree}
use Rattle.questions.proofs.Marking.{marks_none, marks_on}

-- where a point waits, the point at hand is deeper than the first
abbrev pub Deeper : (ws : List ℕ) → Point → Option Way → Option Way → Type 0
Deeper ws p at None = Unit {0}
Deeper ws p at (Some w) = (size_at ws (point_of at).link + size_at ws w.link < size_at ws p.link) × (height_at ws (point_of at).link < height_at ws p.link)

module _ (fq fr : Bool) (ws q : List ℕ) where
  -- what the loop keeps: the marks, the point at hand, and the one that waits, when the turn began at p
  pub record Turning (marks₀ : List ℕ) (p : Point) (marks : List ℕ) (at waiting : Option Way) : Type 0 where
    pub at_node : HasNode at
    pub ready : Ready fq fr ws q (point_of at)
    pub waiting_ready : Ready fq fr ws q (point_of waiting)
    pub sofar : List ℕ
    pub marked : Marked ws marks₀ marks sofar
    pub total : sofar ++ (hits_at fq fr ws q (point_of at) ++ hits_at fq fr ws q (point_of waiting)) ≡ hits_at fq fr ws q p
    pub small : (size_at ws (point_of at).link ≤ size_at ws p.link) × (size_at ws (point_of waiting).link ≤ size_at ws p.link)
    pub level : (height_at ws (point_of at).link ≤ height_at ws p.link) × (height_at ws (point_of waiting).link ≤ height_at ws p.link)
    pub deeper : Deeper ws p at waiting
    -- who waits is a point with a node, and none waits behind nothing
    pub waiting_node : HasNode waiting
    pub alone : at ≡ None → waiting ≡ None

  -- the point at hand was tried, nodes were marked, and it leaves two points or fewer
  pub record Step (marks₀ : List ℕ) (p : Point) (marks' : List ℕ) (x : Way) (waiting below beside : Option Way) : Type 0 where
    pub marks : List ℕ
    pub turning : Turning marks₀ p marks (Some x) waiting
    pub nodes : List ℕ
    pub marked : Marked ws marks marks' nodes
    pub leaves : Leaves fq fr ws q (point x) nodes below beside

module _ {fq fr : Bool} {ws q : List ℕ} where
  pub begins : {marks : List ℕ} {w : Way} {at : Option Way} → Ready fq fr ws q (point w) → NumberSet marks → AtNode w at → Turning fq fr ws q marks (point w) marks at None
  begins {marks} {w} {at} r set a = record {
    at_node = at_has a;
    ready = at_ready a r;
    waiting_ready = no_point r;
    sofar = [];
    marked = marks_none set;
    total = ap (λ (l : List ℕ). hits_at fq fr ws q (point_of at) ++ l) (nothing_at fq fr ws q (point_of None) refl) ∙ append-nil _ ∙ sym (at_hits fq fr ws q a);
    small = (let z = ap size (tip_at ws) in let y = positive (trie (view ws).tree w.link) in let e = ap (size_at ws) (at_link a) in (omega arith, omega arith));
    level = (let z = ap height (tip_at ws) in let e = ap (height_at ws) (at_link a) in (omega arith, omega arith));
    deeper = tt;
    waiting_node = tt;
    alone = λ e. refl;
  }

  -- a way that can be tried can stand on the list
  small : {w : Way} → Ready fq fr ws q (point w) → ¬ (w.link ≡ 0) → Small w
  small {w} r some =
      let a = r.inside in
      let b = r.short in
      let f = r.few in
      (in_tree ws w.link r.threaded some, (omega arith, omega arith))

  -- no point is at hand
  pub ends : {marks₀ marks : List ℕ} {p : Point} {at waiting : Option Way} → Turning fq fr ws q marks₀ p marks at waiting → at ≡ None → Went fq fr ws q marks₀ marks p None
  ends s z = record {
    nodes = s.sofar;
    marked = s.marked;
    goes = sym s.total ∙ ap (λ (l : List ℕ). s.sofar ++ l) (ap₂ ◌++◌ (nothing z) (nothing (s.alone z))) ∙ append-nil s.sofar;
  }
    where
      nothing : {o : Option Way} → o ≡ None → hits_at fq fr ws q (point_of o) ≡ []
      nothing e = ap (λ (o : Option Way). hits_at fq fr ws q (point_of o)) e ∙ nothing_at fq fr ws q (point_of None) refl

  pub stepped : {marks₀ marks marks' : List ℕ} {p : Point} {at waiting below : Option Way} {x : Way} {v : Ways} {beside : Option ℕ} → Turning fq fr ws q marks₀ p marks at waiting
      → at ≡ Some x → Tried fq fr ws q marks marks' (point x) v → v.below ≡ below → v.beside ≡ beside → Step fq fr ws q marks₀ p marks' x waiting below (way_beside (point x) beside)
  stepped {marks₀} {marks} {marks'} {p} {at} {waiting} {below} {x} {v} {beside} s e t b a = record {
    marks = marks;
    turning = subst (λ (z : Option Way). Turning fq fr ws q marks₀ p marks z waiting) e s;
    nodes = t.nodes;
    marked = t.marked;
    leaves = subst (λ (z : Option ℕ). Leaves fq fr ws q (point x) t.nodes below (way_beside (point x) z)) a
        (subst (λ (z : Option Way). Leaves fq fr ws q (point x) t.nodes z (way_beside (point x) v.beside)) b t.left);
  }

  module _ {marks₀ : List ℕ} {p : Point} {marks' : List ℕ} {x : Way} {waiting below beside : Option Way} (t : Step fq fr ws q marks₀ p marks' x waiting below beside) where
    abbrev s : Turning fq fr ws q marks₀ p t.marks (Some x) waiting
    s = t.turning

    abbrev l : Leaves fq fr ws q (point x) t.nodes below beside
    l = t.leaves

    abbrev sofar' : List ℕ
    sofar' = s.sofar ++ t.nodes

    abbrev found : Option Way → List ℕ
    found o = hits_at fq fr ws q (point_of o)

    marked' : Marked ws marks₀ marks' sofar'
    marked' = marks_on ws marks₀ t.marks marks' s.sofar t.nodes s.marked t.marked

    none : [] ≡ found None
    none = sym (nothing_at fq fr ws q (point_of None) refl)

    total' : sofar' ++ ((found below ++ found beside) ++ found waiting) ≡ hits_at fq fr ws q p
    total' = append_assoc s.sofar t.nodes _
        ∙ ap (λ (z : List ℕ). s.sofar ++ z)
        (sym (append_assoc t.nodes (found below ++ found beside) (found waiting)) ∙ ap (λ (z : List ℕ). z ++ found waiting) (sym l.splits.gives)) ∙ s.total

    -- one is left: it is next
    next_one : (y : Way) → ¬ (y.link ≡ 0) → Ready fq fr ws q (point y) → sofar' ++ (found (Some y) ++ found waiting) ≡ hits_at fq fr ws q p
        → size_at ws y.link ≤ size_at ws x.link → height_at ws y.link ≤ height_at ws x.link → Turning fq fr ws q marks₀ p marks' (Some y) waiting
    next_one y some r total small level = record {
      at_node = some;
      ready = r;
      waiting_ready = s.waiting_ready;
      sofar = sofar';
      marked = marked';
      total = total;
      small = (let a = s.small.0 in (omega arith, s.small.1));
      level = (let a = s.level.0 in (omega arith, s.level.1));
      deeper = still waiting s.deeper;
      waiting_node = s.waiting_node;
      alone = λ e. absurd (none-some y (sym e));
    }
      where
        still : (w : Option Way) → Deeper ws p (Some x) w → Deeper ws p (Some y) w
        still None d = tt
        still (Some w) d = let a = d.0 in let b = d.1 in (omega arith, omega arith)

  module _ {marks₀ : List ℕ} {p : Point} {marks' : List ℕ} {x : Way} {waiting : Option Way} where
    -- there is no child: the sibling is next
    pub passes : {y : Way} → Step fq fr ws q marks₀ p marks' x waiting None (Some y) → Turning fq fr ws q marks₀ p marks' (Some y) waiting
    passes {y} t = let l = t.leaves in next_one t y l.beside_node l.splits.beside_ready
        (ap (λ (z : List ℕ). (sofar' t) ++ ((z ++ found t (Some y)) ++ found t waiting)) (none t) ∙ total' t)
        (let b = l.splits.fewer in omega arith) l.splits.level

    -- there is no sibling: the child is next
    pub descends : {y : Way} → Step fq fr ws q marks₀ p marks' x waiting (Some y) None → Turning fq fr ws q marks₀ p marks' (Some y) waiting
    descends {y} t = let l = t.leaves in next_one t y l.below_node l.splits.below_ready
        (ap (λ (z : List ℕ). (sofar' t) ++ (z ++ found t waiting)) (sym (append-nil (found t (Some y))) ∙ ap (λ (z : List ℕ). found t (Some y) ++ z) (none t))
        ∙ total' t)
        (let b = l.splits.fewer in omega arith) (let b = l.splits.deeper in omega arith)

    -- there is neither: the one that waits is next
    pub turns_back : Step fq fr ws q marks₀ p marks' x waiting None None → Turning fq fr ws q marks₀ p marks' waiting None
    turns_back t = let s = t.turning in record {
      at_node = s.waiting_node;
      ready = s.waiting_ready;
      waiting_ready = no_point s.ready;
      sofar = (sofar' t);
      marked = marked' t;
      total = ap (λ (z : List ℕ). (sofar' t) ++ (found t waiting ++ z)) (sym (none t)) ∙ ap (λ (z : List ℕ). (sofar' t) ++ z) (append-nil (found t waiting))
          ∙ ap (λ (z : List ℕ). (sofar' t) ++ (z ++ found t waiting)) (ap₂ ◌++◌ (none t) (none t)) ∙ total' t;
      small = (let z = ap size (tip_at ws) in let a = positive (trie (view ws).tree p.link) in (s.small.1, omega arith));
      level = (let z = ap height (tip_at ws) in (s.level.1, omega arith));
      deeper = tt;
      waiting_node = tt;
      alone = λ e. refl;
    }

    -- there are both, and none waits: the child is next, and the sibling waits
    pub leaves_one : {y w : Way} → Step fq fr ws q marks₀ p marks' x waiting (Some y) (Some w) → waiting ≡ None → Turning fq fr ws q marks₀ p marks' (Some y) (Some w)
    leaves_one {y} {w} t z = let s = t.turning in let l = t.leaves in record {
      at_node = l.below_node;
      ready = l.splits.below_ready;
      waiting_ready = l.splits.beside_ready;
      sofar = (sofar' t);
      marked = marked' t;
      total = ap (λ (z : List ℕ). (sofar' t) ++ z)
          (sym (append-nil (found t (Some y) ++ found t (Some w)))
          ∙ ap (λ (z : List ℕ). (found t (Some y) ++ found t (Some w)) ++ z) ((none t) ∙ ap (found t) (sym z))) ∙ total' t;
      small = (let a = s.small.0 in let b = l.splits.fewer in (omega arith, omega arith));
      level = (let a = s.level.0 in let b = l.splits.deeper in let c = l.splits.level in (omega arith, omega arith));
      deeper = (let a = s.small.0 in let b = l.splits.fewer in let c = s.level.0 in let d = l.splits.deeper in (omega arith, omega arith));
      waiting_node = l.beside_node;
      alone = λ e. absurd (none-some y (sym e));
    }

    -- the three can stand on the list
    waits_small : {w : Way} {below beside : Option Way} → Step fq fr ws q marks₀ p marks' x waiting below beside → waiting ≡ Some w → Small w
    waits_small {w} t e = let s = t.turning in small (subst (λ (z : Option Way). Ready fq fr ws q (point_of z)) e s.waiting_ready) (subst HasNode e s.waiting_node)

    below_small : {y b : Way} → Step fq fr ws q marks₀ p marks' x waiting (Some y) (Some b) → Small y
    below_small t = small t.leaves.splits.below_ready t.leaves.below_node

    beside_small : {y b : Way} → Step fq fr ws q marks₀ p marks' x waiting (Some y) (Some b) → Small b
    beside_small t = small t.leaves.splits.beside_ready t.leaves.beside_node

    -- there are both, and one waits
    pub parts_here : {y b w : Way} → Step fq fr ws q marks₀ p marks' x waiting (Some y) (Some b) → waiting ≡ Some w
        → Went fq fr ws q marks₀ marks' p (Some (record { waits = w; beside = b; below = y }))
    parts_here {y} {b} {w} t e =
        let s = t.turning in
        let l = t.leaves in
        let d = subst (Deeper ws p (Some x)) e s.deeper in
        record {
          nodes = sofar' t;
          marked = marked' t;
          goes = (
            record {
              gives = sym (total' t)
                  ∙ ap (λ (z : List ℕ). sofar' t ++ z)
                  (ap (λ (z : Option Way). (found t (Some y) ++ found t (Some b)) ++ found t z) e ∙ append_assoc (found t (Some y)) (found t (Some b)) (found t (Some w)));
              fewer = (let a = d.0 in let c = l.splits.fewer in omega arith);
              deepest = (let a = d.1 in let c = l.splits.deeper in omega arith);
              deeper = (let a = d.1 in let c = l.splits.level in omega arith);
              level = subst (λ (z : Option Way). height_at ws (point_of z).link ≤ height_at ws p.link) e s.level.1;
              below_ready = l.splits.below_ready;
              beside_ready = l.splits.beside_ready;
              waits_ready = subst (λ (z : Option Way). Ready fq fr ws q (point_of z)) e s.waiting_ready;
            },
            (waits_small t e, (beside_small t, below_small t)),
          );
        }
