-- What the functions promise
use Rattle.std.specs.Prelude.{◌≡◌, List, Option, Some, None, reverse, true, false, ℕ, suc, ◌+◌, ◌-◌, ◌≤◌, ◌<◌, length, get_or, take, drop}
use Rattle.layout.specs.Layout.{rule_numbers, nodes_limit, rules_limit, tree_words}
use Rattle.shape.specs.Shape.{Shape, Hook, Used, Live, Valid, to, owner, floor, Up, Tree}
use Rattle.shape.specs.Change.{Grown, Links, Sorted}
use Rattle.shape.specs.Tally.{tally, marked}
use Rattle.links.specs.Words.{shape, hook}

-- the length of the memory, and a tree in it
pub record Sound (ws : List ℕ) : Type 0 where
  pub size : length ws ≡ tree_words
  pub tree : Tree (shape ws)

-- the bit n of a map is set
abbrev pub Marked : List ℕ → ℕ → Type 0
Marked map n = marked map n ≡ true

-- where a child of p with the cell c belongs: after the sibling b, or first where b is 0; such a child would come next
pub record Found (m : Shape) (p b c : ℕ) : Type 0 where
  pub valid : Valid m (hook p b)
  pub under : owner m (hook p b) ≡ p
  pub above : floor m (hook p b) ≤ c
  pub below : {k : ℕ} → to m (hook p b) ≡ suc k → c ≤ m.cell k

-- no child of l has the cell c
abbrev pub Absent : Shape → ℕ → ℕ → Type 0
Absent m l c = (n : ℕ) → Used m n → m.parent n ≡ l → ¬ (m.cell n ≡ c)

-- i cells of the form have nodes, down to the link l, and the next has none
pub record Descended (m : Shape) (form : List ℕ) (l i : ℕ) : Type 0 where
  pub within : i ≤ length form
  pub at : Up m l (reverse (take i form))
  pub absent : i < length form → Absent m l (get_or form i 0)

-- The form has its nodes and `link` leads to the last; or it is 0, too many would be used, and nothing has changed
pub record Planted (ws ws' form : List ℕ) (link : ℕ) : Type 0 where
  pub at : ℕ
  pub depth : ℕ
  pub descended : Descended (shape ws) form at depth
  pub full : link ≡ 0 → (ws' ≡ ws) × (nodes_limit < tally (shape ws).used nodes_limit + (length form - depth))
  pub fits : ¬ (link ≡ 0) → tally (shape ws).used nodes_limit + (length form - depth) ≤ nodes_limit
  pub grown : ¬ (link ≡ 0) → Grown (shape ws) at (reverse (drop depth form)) (shape ws') link

-- the same of a link that may be none
abbrev pub PlantedOf : (ws ws' form : List ℕ) → Option ℕ → Type 0
PlantedOf ws ws' form None = Planted ws ws' form 0
PlantedOf ws ws' form (Some link) = (¬ (link ≡ 0)) × Planted ws ws' form link

-- A rule's place r is free, and no rule below the link p has its number
pub record Hangable (ws : List ℕ) (p r number : ℕ) : Type 0 where
  pub sound : Sound ws
  pub live : Live (shape ws) p
  pub place : r < rules_limit
  pub free : (shape ws).used (nodes_limit + r) ≡ false
  pub low : number < rule_numbers
  pub absent : Absent (shape ws) p number

-- The rule r hangs below p, at its number's hook
pub record Hung (m m' : Shape) (p r number : ℕ) : Type 0 where
  pub at : Hook
  pub below : owner m at ≡ p
  pub sorted : Sorted m at number
  pub links : Links m m' at number (nodes_limit + r)
