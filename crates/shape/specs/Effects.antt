-- What one store does to memory. A node is linked in by a node written, a link put and a bit marked, and out by a link put and a bit cleared
use Rattle.std.specs.Prelude.{◌≡◌, refl, Bool, true, false, ℕ, suc}
use Rattle.std.proofs.Common.{sym, ◌∙◌, subst}
use Rattle.deciding.specs.Deciding.{true_not_false}
use Rattle.shape.specs.Shape.{Shape, Hook, child, after, Used, Valid, to, owner}
use Rattle.shape.specs.Change.{Links, Unlinks}

-- the hook s leads to x
pub record Leads (m m' : Shape) (s : Hook) (x : ℕ) : Type 0 where
  pub here : to m' s ≡ x
  pub used : (y : ℕ) → m'.used y ≡ m.used y
  pub cell : (y : ℕ) → m'.cell y ≡ m.cell y
  pub parent : (y : ℕ) → m'.parent y ≡ m.parent y
  pub others : (z : Hook) → ¬ (z ≡ s) → to m' z ≡ to m z

-- the node n is used or not, as b says
pub record Flips (m m' : Shape) (n : ℕ) (b : Bool) : Type 0 where
  pub here : m'.used n ≡ b
  pub used : (y : ℕ) → ¬ (y ≡ n) → m'.used y ≡ m.used y
  pub cell : (y : ℕ) → m'.cell y ≡ m.cell y
  pub parent : (y : ℕ) → m'.parent y ≡ m.parent y
  pub hooks : (z : Hook) → to m' z ≡ to m z

-- the node n has the cell c, the parent p, no child, and the next sibling x
pub record Writes (m m' : Shape) (n c p x : ℕ) : Type 0 where
  pub cell : m'.cell n ≡ c
  pub parent : m'.parent n ≡ p
  pub next : m'.next n ≡ x
  pub first : m'.first (suc n) ≡ 0
  pub used : (y : ℕ) → m'.used y ≡ m.used y
  pub cells : (y : ℕ) → ¬ (y ≡ n) → m'.cell y ≡ m.cell y
  pub parents : (y : ℕ) → ¬ (y ≡ n) → m'.parent y ≡ m.parent y
  pub hooks : (z : Hook) → ¬ (z ≡ after n) → ¬ (z ≡ child (suc n)) → to m' z ≡ to m z

pub linked : {m m₁ m₂ m₃ : Shape} {s : Hook} {c n : ℕ} → m.used n ≡ false → Valid m s
    → Writes m m₁ n c (owner m s) (to m s) → Leads m₁ m₂ s (suc n) → Flips m₂ m₃ n true → Links m m₃ s c n
linked {m} {m₁} {m₂} {m₃} {s} {c} {n} free v w p f = record {
  was = free;
  now = f.here;
  cell = f.cell n ∙ p.cell n ∙ w.cell;
  parent = f.parent n ∙ p.parent n ∙ w.parent;
  next = f.hooks (after n) ∙ p.others (after n) (λ e. own (after n) (sym e) refl) ∙ w.next;
  first = f.hooks (child (suc n)) ∙ p.others (child (suc n)) (λ e. own (child (suc n)) (sym e) refl) ∙ w.first;
  here = f.hooks s ∙ p.here;
  kept = record {
    used = λ y h. f.used y h ∙ p.used y ∙ w.used y;
    cell = λ y h. f.cell y ∙ p.cell y ∙ w.cells y h;
    parent = λ y h. f.parent y ∙ p.parent y ∙ w.parents y h;
  };
  hooks = λ z u h. f.hooks z ∙ p.others z h ∙ w.hooks z (not_own z u (after n) refl) (not_own z u (child (suc n)) refl);
}
  where
    -- n is free, so no valid hook is one of its own
    not_own : (z : Hook) → Valid m z → (o : Hook) → Valid m o ≡ Used m n → ¬ (z ≡ o)
    not_own z u o q e = true_not_false (subst (λ (A : Type 0). A) q (subst (λ (x : Hook). Valid m x) e u)) free

    own : (o : Hook) → s ≡ o → Valid m o ≡ Used m n → ⊥
    own o e q = not_own s v o q e

pub unlinked : {m m₁ m₂ : Shape} {s : Hook} {n : ℕ} → Valid m s → to m s ≡ suc n → m.first (suc n) ≡ 0
    → Leads m m₁ s (m.next n) → Flips m₁ m₂ n false → Unlinks m m₂ s n
unlinked {s = s} v l z p f = record {
  valid = v;
  leads = l;
  leaf = z;
  gone = f.here;
  here = f.hooks s ∙ p.here;
  kept = record { used = λ y h. f.used y h ∙ p.used y; cell = λ y h. f.cell y ∙ p.cell y; parent = λ y h. f.parent y ∙ p.parent y };
  hooks = λ z w h. f.hooks z ∙ p.others z h;
}
