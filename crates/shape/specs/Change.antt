-- How memory changes: a node is linked in, a node is linked out; a chain of nodes grows, and is trimmed
use Rattle.std.specs.Prelude.{◌≡◌, List, [], ◌∷◌, true, false, ℕ, suc, ◌≤◌, ◌<◌}
use Rattle.layout.specs.Layout.{nodes_limit}
use Rattle.shape.specs.Shape.{Shape, Hook, Used, Valid, to, owner, floor}

-- what is said of nodes other than n stays
pub record Kept (m m' : Shape) (n : ℕ) : Type 0 where
  pub used : (y : ℕ) → ¬ (y ≡ n) → m'.used y ≡ m.used y
  pub cell : (y : ℕ) → ¬ (y ≡ n) → m'.cell y ≡ m.cell y
  pub parent : (y : ℕ) → ¬ (y ≡ n) → m'.parent y ≡ m.parent y

-- the free node n comes in at the hook s with the cell c; what s led to becomes its next sibling
pub record Links (m m' : Shape) (s : Hook) (c n : ℕ) : Type 0 where
  pub was : m.used n ≡ false
  pub now : m'.used n ≡ true
  pub cell : m'.cell n ≡ c
  pub parent : m'.parent n ≡ owner m s
  pub next : m'.next n ≡ to m s
  pub first : m'.first (suc n) ≡ 0
  pub here : to m' s ≡ suc n
  pub kept : Kept m m' n
  pub hooks : (z : Hook) → Valid m z → ¬ (z ≡ s) → to m' z ≡ to m z

-- the node n, which has no child and which s leads to, goes; s leads to its next sibling
pub record Unlinks (m m' : Shape) (s : Hook) (n : ℕ) : Type 0 where
  pub valid : Valid m s
  pub leads : to m s ≡ suc n
  pub leaf : m.first (suc n) ≡ 0
  pub gone : m'.used n ≡ false
  pub here : to m' s ≡ m.next n
  pub kept : Kept m m' n
  pub hooks : (z : Hook) → Valid m' z → ¬ (z ≡ s) → to m' z ≡ to m z

-- s is where a child with the cell c belongs, and none with it is there
pub record Sorted (m : Shape) (s : Hook) (c : ℕ) : Type 0 where
  pub valid : Valid m s
  pub above : floor m s ≤ c
  pub below : {x : ℕ} → to m s ≡ suc x → c < m.cell x

-- n is the free node of lowest number, and not a rule's
pub record Lowest (m : Shape) (n : ℕ) : Type 0 where
  pub low : n < nodes_limit
  pub free : m.used n ≡ false
  pub below : (k : ℕ) → k < n → Used m k

-- A chain with the cells of the row grows under the link l₀ down to l, by the lowest free node each time
pub data Grown (m₀ : Shape) (l₀ : ℕ) : List ℕ → Shape → ℕ → Type 0 where
  none : Grown m₀ l₀ [] m₀ l₀
  more : {r : List ℕ} {m m' : Shape} {l c n : ℕ} (s : Hook) → Grown m₀ l₀ r m l
      → Lowest m n → Sorted m s c → owner m s ≡ l → Links m m' s c n → Grown m₀ l₀ (c ∷ r) m' (suc n)

-- From the link on upwards each node goes that has no child, up to the first that has one, or to the root
pub data Trimmed : Shape → ℕ → Shape → Type 0 where
  root : {m : Shape} → Trimmed m 0 m
  stays : {m : Shape} {n k : ℕ} → m.first (suc n) ≡ suc k → Trimmed m (suc n) m
  goes : {m m₁ m' : Shape} {n : ℕ} (s : Hook) → Unlinks m m₁ s n → Trimmed m₁ (m.parent n) m' → Trimmed m (suc n) m'
