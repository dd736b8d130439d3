-- What memory holds, as functions, and when it is the tree of a set of ends.
-- A node has a number. A link is 0 or a node's number + 1: of a parent 0 is the root, elsewhere it is no node.
use Rattle.std.specs.Prelude.{◌≡◌, ◌⊎◌, Bool, true, ℕ, zero, suc, ◌≤◌, length}
use mathlib.Core.List.{List, [], ◌∷◌, ◌++◌, map, reverse, Memᴰ}

pub record Shape : Type 0 where
  pub used : ℕ → Bool
  pub cell : ℕ → ℕ
  pub parent : ℕ → ℕ
  pub next : ℕ → ℕ
  pub first : ℕ → ℕ  -- by link: `first 0` is the root's first child

-- A hook is where a link down stands: the first child of a link, or the next sibling of a node
pub data Hook : Type 0 where
  child : ℕ → Hook
  after : ℕ → Hook
  deriving Discrete as Hook-discrete

module _ (m : Shape) where
  abbrev pub Used : ℕ → Type 0
  Used n = m.used n ≡ true

  -- the root, or a used node
  abbrev pub Live : ℕ → Type 0
  Live zero = Unit {0}
  Live (suc n) = Used n

  abbrev pub Valid : Hook → Type 0
  Valid (child l) = Live l
  Valid (after n) = Used n

  abbrev pub to : Hook → ℕ
  to (child l) = m.first l
  to (after n) = m.next n

  -- the link whose children the hook leads to
  abbrev pub owner : Hook → ℕ
  owner (child l) = l
  owner (after n) = m.parent n

  -- the least cell that may stand there: siblings ascend by cell
  abbrev pub floor : Hook → ℕ
  floor (child l) = 0
  floor (after n) = suc (m.cell n)

  -- n is a used child of p with a cell of at least `low`
  pub record Suits (p low n : ℕ) : Type 0 where
    pub used : Used n
    pub under : m.parent n ≡ p
    pub above : low ≤ m.cell n

  abbrev pub Fits : Hook → ℕ → Type 0
  Fits s n = Suits (owner s) (floor s) n

  pub record Source (n : ℕ) : Type 0 where
    pub at : Hook
    pub valid : Valid at
    pub leads : to at ≡ suc n

  -- going up from a link by parents, through used nodes, reads the row and ends at the root: a row is a beginning of a form, read backwards
  pub data Up : ℕ → List ℕ → Type 0 where
    top : Up zero []
    down : {n c : ℕ} {r : List ℕ} → Used n → m.cell n ≡ c → Up (m.parent n) r → Up (suc n) (c ∷ r)

  -- going up from a link passes n
  pub data On (n : ℕ) : ℕ → Type 0 where
    here : On n (suc n)
    above : {k : ℕ} → On n (m.parent k) → On n (suc k)

  -- a tree, whatever ends it has
  pub record Tree : Type 0 where
    pub goes : (s : Hook) → Valid s → {n : ℕ} → to s ≡ suc n → Fits s n
    pub comes : (n : ℕ) → Used n → Source n
    pub rooted : (n : ℕ) → Used n → (r : List ℕ) × Up (suc n) r

-- An end: the last node of a form, and the form as cell numbers
pub record End : Type 0 where
  pub last : ℕ
  pub form : List ℕ

-- n lies on the way of one of the ends
pub record Covered (m : Shape) (ends : List End) (n : ℕ) : Type 0 where
  pub end : End
  pub among : Memᴰ end ends
  pub on : On m n (suc end.last)

-- The tree's part of the check
pub record Passes (m : Shape) (ends : List End) : Type 0 where
  pub goes : (s : Hook) → Valid m s → {n : ℕ} → to m s ≡ suc n → Fits m s n
  pub comes : (n : ℕ) → Used m n → Source m n
  pub ways : (x : End) → Memᴰ x ends → Up m (suc x.last) (reverse x.form)
  pub covered : (n : ℕ) → Used m n → Covered m ends n

-- `new` has the ends of `old`, and x
pub record Joins (x : End) (old new : List End) : Type 0 where
  pub of : (y : End) → Memᴰ y new → (y ≡ x) ⊎ Memᴰ y old
  pub kept : (y : End) → Memᴰ y old → Memᴰ y new
  pub joined : Memᴰ x new

abbrev pub forms : List End → List (List ℕ)
forms ends = map (λ x. x.form) ends

-- no form is a proper beginning of another
abbrev pub PrefixFree : List (List ℕ) → Type 0
PrefixFree fs = (f g : List ℕ) → Memᴰ f fs → Memᴰ g fs → (s : List ℕ) → f ++ s ≡ g → s ≡ []

-- a row has at most 33 cells: 32 of a form, and a rule's number
abbrev pub Short : List (List ℕ) → Type 0
Short fs = (f : List ℕ) → Memᴰ f fs → length f ≤ 33
