-- What the search promises.
use Rattle.std.specs.Prelude.{◌≡◌, ◌⊎◌, ◌↔◌, Bool, true, false, ℕ, zero, suc, ◌+◌, ◌*◌, ◌^◌, ◌≤◌, ◌<◌, length, get_or, drop, slice_set, Option, Some, None}
use mathlib.Core.List.{List, [], ◌∷◌, ◌++◌, Memᴰ}
use Rattle.layout.specs.Layout.{rule_numbers, links_at, last_link}
use Rattle.bits.specs.Numbers.{has, Member, NumberSet}
use Rattle.term.specs.Cells.{arity, blank_of, blank_form}
use Rattle.term.specs.Machine.{failed, at, run, done}
use Rattle.term.specs.Steps.{spot}
use Rattle.links.specs.Words.{cell_of, first_of, next_of}
use Rattle.shape.specs.Shape.{Used}
use Rattle.shape.specs.Trie.{Trie, tip, node, trie, height}
use Rattle.shape.specs.Search.{hits, size}
use Rattle.book.specs.Rules.{Rule, rule, Rules}
use Rattle.book.specs.Memory.{view, Passing, rules_in}
use Rattle.questions.specs.declared.Point.{Point}
use Rattle.questions.specs.declared.asking.Question.{Question}
use Rattle.questions.specs.declared.trying.Way.{Way}
use Rattle.questions.specs.declared.trying.Ways.{Ways}
use Rattle.questions.specs.declared.Points.{Points}
use Rattle.questions.specs.declared.turning.Rest.{Rest}
use Rattle.questions.specs.Asking.{numbers_in_order}
use Rattle.questions.specs.Walk.{Walk, reading, next, good}
use Rattle.links.specs.Siblings.{Onward}

-- At a node whose word is w: the walk before it, and after it.
abbrev pub walk_before : List ℕ → ℕ → ℕ → Walk
walk_before question skip place = reading (spot question skip place)

abbrev pub walk_after : Bool → Bool → List ℕ → ℕ → ℕ → ℕ → Walk
walk_after fq fr question w skip place = next fq fr (cell_of w) (walk_before question skip place)

-- A link of a passing book's tree: none, or that of a node in use.
pub record Threaded (ws : List ℕ) (link : ℕ) : Type 0 where
  pub passing : Passing ws
  pub used : (n : ℕ) → link ≡ suc n → Used (view ws).tree n

-- From the link on, sibling by sibling, to x: each that is passed is a symbol, and not the one with the cell.
pub data PassesBy (ws : List ℕ) (cell link : ℕ) : ℕ → Type 0 where
  start : PassesBy ws cell link link
  pass_on : {x : ℕ} → PassesBy ws cell link x → ¬ (x ≡ 0) → cell_of (get_or ws (links_at + x) 0) < 32768 → ¬ (cell_of (get_or ws (links_at + x) 0) ≡ cell)
      → PassesBy ws cell link (next_of (get_or ws (links_at + x) 0))

-- Between a sibling with the cell c and one with the cell r there is no blank, nor the cell wanted.
pub record Reach (cell c r : ℕ) : Type 0 where
  pub low : r ≤ 32768
  pub between : (d : ℕ) → c ≤ d → d < r → ¬ (d ≡ cell)

-- The next sibling, or one further on up to which nothing is passed that may not be.
pub record Onwards (ws : List ℕ) (cell w r : ℕ) : Type 0 where
  pub most : ℕ
  pub reach : Reach cell (cell_of w) most
  pub on : Onward (view ws).tree w most r

-- A link of the tree, up to which all is passed by.
pub record LeapsTo (ws : List ℕ) (cell link r : ℕ) : Type 0 where
  pub threaded : Threaded ws r
  pub by : PassesBy ws cell link r

-- Passed by up to r; or up to a symbol above `last` or to the end, and there is none.
pub data Sought (ws : List ℕ) (cell last link : ℕ) : Option ℕ → Type 0 where
  reached : {r : ℕ} → PassesBy ws cell link r → ¬ (r ≡ 0) → Sought ws cell last link (Some r)
  ended : {x : ℕ} → PassesBy ws cell link x → x ≡ 0 → Sought ws cell last link None
  beyond : {x : ℕ} → PassesBy ws cell link x → ¬ (x ≡ 0) → last < cell_of (get_or ws (links_at + x) 0) → cell_of (get_or ws (links_at + x) 0) < 32768
      → Sought ws cell last link None

-- From the link on, sibling by sibling, where nothing is to be skipped: at each that is passed the machine fails.
pub data Skips (fq fr : Bool) (ws question : List ℕ) (place link : ℕ) : ℕ → Type 0 where
  stay : Skips fq fr ws question place link link
  skip_on : {x : ℕ} → Skips fq fr ws question place link x → ¬ (x ≡ 0) → walk_after fq fr question (get_or ws (links_at + x) 0) 0 place ≡ reading failed
      → Skips fq fr ws question place link (next_of (get_or ws (links_at + x) 0))

-- Each other symbol makes the machine fail, and where it is a symbol and the rule's blanks may not be filled, any other cell.
pub record Decisive (fq : Bool) (question : List ℕ) (place cell : ℕ) : Type 0 where
  pub symbols : (fr : Bool) (d : ℕ) → d < 32768 → ¬ (d ≡ cell) → next fq fr d (walk_before question 0 place) ≡ reading failed
  pub any : cell < 32768 → (d : ℕ) → ¬ (d ≡ cell) → next fq false d (walk_before question 0 place) ≡ reading failed

-- One cell is wanted, or any, since the question's cell may be filled.
abbrev pub Wanted : Bool → List ℕ → ℕ → Option ℕ → Type 0
Wanted fq question place (Some cell) = Decisive fq question place cell
Wanted fq question place None = (fq ≡ true) × (32768 ≤ get_or question place 0)

-- The symbol wanted is the last cell to look at only where the rule's blanks may not be filled; else it is the highest.
abbrev pub LastWanted : Bool → ℕ → ℕ → Type 0
LastWanted fr cell last = ((fr ≡ false) × (last ≡ cell)) ⊎ (last ≡ 65535)

-- What hangs at a link: how much, and how deep.
abbrev pub size_at : List ℕ → ℕ → ℕ
size_at ws link = size (trie (view ws).tree link)

abbrev pub height_at : List ℕ → ℕ → ℕ
height_at ws link = height (trie (view ws).tree link)

-- What is to be found from a point on.
unfoldable pub hits_at : Bool → Bool → (ws question : List ℕ) → Point → List ℕ
hits_at fq fr ws question p = hits (next fq fr) (good fq fr) (view ws).tree (walk_before question p.skip p.place) (trie (view ws).tree p.link)

-- A point that can be tried: its link is of the tree, the machine can stand there, and what is found from it on are rules with numbers that can be marked.
-- Each level below can add seven subterms to skip.
pub record Ready (fq fr : Bool) (ws question : List ℕ) (p : Point) : Type 0 where
  pub threaded : Threaded ws p.link
  pub words : (i : ℕ) → get_or ws i 0 < 2 ^ 64
  pub short : length question ≤ 32
  pub inside : p.place ≤ length question
  pub few : p.skip + 7 * height_at ws p.link ≤ 231
  pub low : (n : ℕ) → Memᴰ n (hits_at fq fr ws question p) → (view ws).tree.cell n < rule_numbers

-- The marks afterwards are those before, and the cells of the nodes listed.
pub record Marked (ws marks marks' nodes : List ℕ) : Type 0 where
  pub map : NumberSet marks'
  pub marks_are : (k : ℕ) → Member marks' k ↔ (Member marks k ⊎ ((n : ℕ) × Memᴰ n nodes × ((view ws).tree.cell n ≡ k)))

-- The nodes from a link on, sibling by sibling.
abbrev pub beside : Trie → List ℕ
beside tip = []
beside (node n l r) = n ∷ beside r

unfoldable pub siblings : List ℕ → ℕ → List ℕ
siblings ws link = beside (trie (view ws).tree link)

-- All of them have numbers that can be marked.
pub record RulesBeside (ws : List ℕ) (link : ℕ) : Type 0 where
  pub threaded : Threaded ws link
  pub low : (n : ℕ) → Memᴰ n (siblings ws link) → (view ws).tree.cell n < rule_numbers

-- A way is a point in hand.
abbrev pub point : Way → Point
point w = record { link = w.link; skip = w.skip; place = w.place }

-- It can stand on the list.
abbrev pub Small : Way → Type 0
Small w = (w.link ≤ last_link) × ((w.skip ≤ 231) × (w.place ≤ 32))

-- A link as the memory has it: 0 is none.
abbrev pub linked : ℕ → Option ℕ
linked zero = None
linked (suc n) = Some (suc n)

-- The way itself if there is a node at its link, else none.
pub data AtNode (w : Way) : Option Way → Type 0 where
  no_node : w.link ≡ 0 → AtNode w None
  its_node : ¬ (w.link ≡ 0) → AtNode w (Some w)

-- None is like a point without a node: nothing is found from it on.
abbrev pub point_of : Option Way → Point
point_of (Some w) = point w
point_of None = record { link = 0; skip = 0; place = 0 }

-- There is a node at its link.
abbrev pub HasNode : Option Way → Type 0
HasNode (Some w) = ¬ (w.link ≡ 0)
HasNode None = Unit {0}

-- What is found from the point on are these nodes, and what is found from two other points on. Both can be tried, there is less behind them, and
-- the one below is a level deeper.
pub record Splits (fq fr : Bool) (ws question : List ℕ) (p : Point) (nodes : List ℕ) (below beside : Point) : Type 0 where
  pub gives : hits_at fq fr ws question p ≡ nodes ++ (hits_at fq fr ws question below ++ hits_at fq fr ws question beside)
  pub fewer : size_at ws below.link + size_at ws beside.link < size_at ws p.link
  pub deeper : height_at ws below.link < height_at ws p.link
  pub level : height_at ws beside.link ≤ height_at ws p.link
  pub below_ready : Ready fq fr ws question below
  pub beside_ready : Ready fq fr ws question beside

-- Two ways stand for what is found from the point on.
pub record Leaves (fq fr : Bool) (ws question : List ℕ) (p : Point) (nodes : List ℕ) (below beside : Option Way) : Type 0 where
  pub splits : Splits fq fr ws question p nodes (point_of below) (point_of beside)
  pub below_node : HasNode below
  pub beside_node : HasNode beside

-- The way to a sibling.
abbrev pub way_beside : Point → Option ℕ → Option Way
way_beside p (Some link) = Some (record { link = link; skip = p.skip; place = p.place })
way_beside p None = None

-- A try leaves them at the node's first child and at its sibling.
abbrev pub Left : Bool → Bool → (ws question : List ℕ) → Point → List ℕ → Ways → Type 0
Left fq fr ws question p nodes r = Leaves fq fr ws question p nodes r.below (way_beside p r.beside)

-- A node is passed: its arguments are to be skipped, and so many subterms more.
pub record PassesNode (ws : List ℕ) (p : Way) (left place : ℕ) (r : Ways) : Type 0 where
  pub skip : ℕ
  pub skip_is : skip ≡ left + arity (blank_of (cell_of (get_or ws (links_at + p.link) 0)))
  pub few : skip ≤ left + 7
  pub beside : r.beside ≡ linked (next_of (get_or ws (links_at + p.link) 0))
  pub below : AtNode (record { link = first_of (get_or ws (links_at + p.link) 0); skip = skip; place = place }) r.below

-- A point is tried: some nodes are marked, and it leaves the rest.
pub record Tried (fq fr : Bool) (ws question marks marks' : List ℕ) (p : Point) (r : Ways) : Type 0 where
  pub nodes : List ℕ
  pub marked : Marked ws marks marks' nodes
  pub left : Left fq fr ws question p nodes r

-- A point that can be tried, and numbers that can be marked.
pub record Steady (fq fr : Bool) (ws question marks : List ℕ) (p : Point) : Type 0 where
  pub ready : Ready fq fr ws question p
  pub map : NumberSet marks

-- What is found from the point on are these nodes, and what is found from three other points on. All can be tried, there is less behind them, and
-- each is a level deeper than the one before.
pub record Parts (fq fr : Bool) (ws question : List ℕ) (p : Point) (nodes : List ℕ) (below beside waits : Point) : Type 0 where
  pub gives : hits_at fq fr ws question p ≡ nodes ++ (hits_at fq fr ws question below ++ (hits_at fq fr ws question beside ++ hits_at fq fr ws question waits))
  pub fewer : size_at ws below.link + size_at ws beside.link + size_at ws waits.link < size_at ws p.link
  pub deepest : height_at ws below.link + 1 < height_at ws p.link
  pub deeper : height_at ws beside.link < height_at ws p.link
  pub level : height_at ws waits.link ≤ height_at ws p.link
  pub below_ready : Ready fq fr ws question below
  pub beside_ready : Ready fq fr ws question beside
  pub waits_ready : Ready fq fr ws question waits

-- After a turn all that is found from the point on is marked, and it goes; or some, and three points stand for the rest.
abbrev pub Goes : Bool → Bool → (ws question : List ℕ) → Point → List ℕ → Option Rest → Type 0
Goes fq fr ws question p nodes None = hits_at fq fr ws question p ≡ nodes
Goes fq fr ws question p nodes (Some r) = Parts fq fr ws question p nodes (point r.below) (point r.beside) (point r.waits) × (Small r.waits × (Small r.beside × Small r.below))

pub record Went (fq fr : Bool) (ws question marks marks' : List ℕ) (p : Point) (r : Option Rest) : Type 0 where
  pub nodes : List ℕ
  pub marked : Marked ws marks marks' nodes
  pub goes : Goes fq fr ws question p nodes r

-- The same for a question as the code holds it.
abbrev pub ReadyFor : Question → Way → Type 0
ReadyFor a w = Ready a.fills_question a.fills_rule a.m.now a.cells.now (point w)

abbrev pub LeftFor : Question → Way → List ℕ → Ways → Type 0
LeftFor a w nodes r = Left a.fills_question a.fills_rule a.m.now a.cells.now (point w) nodes r

abbrev pub TriedFor : Question → (marks marks' : List ℕ) → Way → Ways → Type 0
TriedFor a marks marks' w r = Tried a.fills_question a.fills_rule a.m.now a.cells.now marks marks' (point w) r

abbrev pub SteadyFor : Question → (marks : List ℕ) → Way → Type 0
SteadyFor a marks w = Steady a.fills_question a.fills_rule a.m.now a.cells.now marks (point w)

abbrev pub WentFor : Question → (marks marks' : List ℕ) → Way → Option Rest → Type 0
WentFor a marks marks' w r = Went a.fills_question a.fills_rule a.m.now a.cells.now marks marks' (point w) r

-- Of so many points the last is taken, and one less stands; or none stands.
abbrev pub Taken : List Point → (depth depth' : ℕ) → Option Way → Type 0
Taken list depth depth' None = (depth ≡ 0) × (depth' ≡ 0)
Taken list depth depth' (Some w) = (depth ≡ depth' + 1) × (point w ≡ get_or list depth' (record { link = 0; skip = 0; place = 0 }))

-- The last point of a list is taken, if one stands there.
pub record Pops (before after : Points) (w : Option Way) : Type 0 where
  pub same : after.list ≡ before.list
  pub taken : Taken before.list.now before.depth after.depth w

-- A point stands behind the others.
pub record Pushes (before after : Points) (w : Way) : Type 0 where
  pub same : after.list.ghost_name ≡ before.list.ghost_name
  pub list : after.list.now ≡ slice_set before.list.now before.depth (point w)
  pub depth : after.depth ≡ before.depth + 1

-- The point that the search begins with: the tree's first node, and the machine before all cells.
pub record IsRoot (ws : List ℕ) (p : Point) : Type 0 where
  pub words : (i : ℕ) → get_or ws i 0 < 2 ^ 64
  pub is : p ≡ record { link = first_of (get_or ws links_at 0); skip = 0; place = 0 }

-- It stands first on a list that is long enough.
pub record Rooted (ws : List ℕ) (l : List Point) : Type 0 where
  pub long : length l ≡ 36
  pub root : IsRoot ws (get_or l 0 (record { link = 0; skip = 0; place = 0 }))

-- The rule with the number k answers, as the machine decides it.
pub record Answering (fq fr : Bool) (ws question : List ℕ) (k : ℕ) : Type 0 where
  pub its : Rule
  pub held : rules_in ws k ≡ rule its
  pub accepted : done (run fq fr (at 0 (blank_form question)) (blank_form its.term)) ≡ true

-- The marks afterwards are those before, and the numbers of the rules that answer; no other.
pub record Searched (fq fr : Bool) (ws question marks marks' : List ℕ) : Type 0 where
  pub map : NumberSet marks'
  pub marks_are : (k : ℕ) → Member marks' k ↔ (Member marks k ⊎ Answering fq fr ws question k)

-- The marks are the numbers of the rules that answer.
abbrev pub Asked : Bool → Bool → (ws question marks : List ℕ) → Type 0
Asked fq fr ws question marks = (k : ℕ) → Member marks k ↔ Answering fq fr ws question k

-- The marked numbers of these rules are written in order from the front of the cells, n of them, and the cells behind them stay.
pub record Lists (rules : Rules) (marks out out' : List ℕ) (n : ℕ) : Type 0 where
  pub count : n ≡ length (numbers_in_order rules (has marks))
  pub is : out' ≡ numbers_in_order rules (has marks) ++ drop n out
