-- Adding and removing an end, a node at a time. What both loops keep: all that passing says, but used nodes may also lie on the way up from one link.
-- Each link in moves that link down, each link out moves it up.
use Rattle.std.specs.Prelude.{◌≡◌, refl, ◌⊎◌, ◌↔◌, false, ℕ, suc, ◌≤◌, length}
use Rattle.std.proofs.Common.{sym, ap, ◌∙◌, subst, inl, inr, arith}
use mathlib.Core.List.{List, [], ◌∷◌, ◌++◌, reverse, Memᴰ}
use Rattle.std.proofs.Math.Decide.{ℕ_discrete}
use Rattle.std.proofs.Math.Nat.{suc_inj}
use Rattle.deciding.specs.Deciding.{true_not_false}
use Rattle.layout.specs.Layout.{nodes_limit}
use Rattle.shape.specs.Basics.{up_used, up_parent}
use Rattle.shape.specs.Shape.{Shape, Hook, child, Used, owner, Up, down, On, here, above, Tree, End, Covered, Passes, Joins, forms, PrefixFree}
use Rattle.shape.specs.Order.{childless}
use Rattle.shape.specs.Rows.{up_same, up_child, on_none, on_trans, end_on, passes_tree}
use Rattle.shape.specs.Change.{Links, Unlinks, Sorted, Grown, none, more, Trimmed, root, stays, goes}
use Rattle.shape.specs.Keeping.{kept_back, on_kept, free_off, leaf_off}
use Rattle.shape.specs.Link.{link_tree, link_old, link_new}
use Rattle.shape.specs.Unlink.{unlink_tree, unlink_old}

pub record Partly (m : Shape) (ends : List End) (l : ℕ) (r : List ℕ) : Type 0 where
  pub tree : Tree m
  pub at : Up m l r
  pub ways : (x : End) → Memᴰ x ends → Up m (suc x.last) (reverse x.form)
  pub covered : (n : ℕ) → Used m n → Covered m ends n ⊎ On m n l

-- ---- how it begins and ends

pub begin_add : {m : Shape} {ends : List End} → Passes m ends → {l : ℕ} {r : List ℕ} → Up m l r → Partly m ends l r
begin_add c x = record { tree = passes_tree c; at = x; ways = c.ways; covered = λ n u. inl (c.covered n u) }

-- x goes from `old`, and `ends` stay
pub begin_remove : {m : Shape} {old ends : List End} → Passes m old → (x : End) → Joins x ends old → Partly m ends (suc x.last) (reverse x.form)
begin_remove {m} {old} {ends} c x j = record {
  tree = passes_tree c;
  at = c.ways x j.joined;
  ways = λ y i. c.ways y (j.kept y i);
  covered = λ n u. let q = c.covered n u in go n q.end (j.of q.end q.among) q.on;
}
  where
    go : (n : ℕ) (y : End) → (y ≡ x) ⊎ Memᴰ y ends → On m n (suc y.last) → Covered m ends n ⊎ On m n (suc x.last)
    go n y (inl e) o = inr (subst (λ (z : End). On m n (suc z.last)) e o)
    go n y (inr i) o = inl (record { end = y; among = i; on = o })

ended : {m : Shape} {ends : List End} {l : ℕ} {r : List ℕ} → Partly m ends l r → ((n : ℕ) → On m n l → Covered m ends n) → Passes m ends
ended {m} {ends} {l} p f = record { goes = p.tree.goes; comes = p.tree.comes; ways = p.ways; covered = λ n u. go n (p.covered n u) }
  where
    go : (n : ℕ) → Covered m ends n ⊎ On m n l → Covered m ends n
    go n (inl q) = q
    go n (inr o) = f n o

ended_root : {m : Shape} {ends : List End} {r : List ℕ} → Partly m ends 0 r → Passes m ends
ended_root p = ended p (λ n o. absurd (on_none o))

-- at a node on the way of an end
ended_on : {m : Shape} {ends : List End} {k : ℕ} {r : List ℕ} → Partly m ends (suc k) r → Covered m ends k → Passes m ends
ended_on p c = ended p (λ n q. record { end = c.end; among = c.among; on = on_trans q c.on })

-- a node's row is no longer than that of a link below it
pub on_short : {m : Shape} {n l : ℕ} {r s : List ℕ} → On m n l → Up m l r → Up m (suc n) s → length s ≤ length r
on_short here x y = rw (up_same x y) (omega arith)
on_short (above o) (down u e x) y = let q = on_short o x y in omega arith

-- at a node that has a child: the child does not lie on the way up, so it lies on that of an end
ended_child : {m : Shape} {ends : List End} {n k : ℕ} {r : List ℕ} → Partly m ends (suc n) r → m.first (suc n) ≡ suc k → Passes m ends
ended_child {m} {ends} {n} {k} {r} p e = go (p.covered k (up_used below))
  where
    below : Up m (suc k) (m.cell k ∷ r)
    below = up_child p.tree (suc n) p.at e

    go : Covered m ends k ⊎ On m k (suc n) → Passes m ends
    go (inl q) =
        ended_on p (record {
          end = q.end;
          among = q.among;
          on = on_trans
              (above (subst (λ (z : ℕ). On m n z) (sym (p.tree.goes (child (suc n)) (up_used p.at) e).under) here)) q.on;
        })
    go (inr o) = absurd (let q = on_short o p.at below in omega arith)

-- at the last node of a new end
pub ended_new : {m : Shape} {ends new : List End} {l : ℕ} {r : List ℕ} → Partly m ends l r → (x : End) → suc x.last ≡ l → reverse x.form ≡ r → Joins x ends new
    → Passes m new
ended_new {m} {ends} {new} {l} {r} p x e f j = ended q (λ n o. record { end = x; among = j.joined; on = subst (λ (z : ℕ). On m n z) (sym e) o })
  where
    up : Up m (suc x.last) (reverse x.form)
    up = subst (λ (z : ℕ). Up m z (reverse x.form)) (sym e) (subst (λ (z : List ℕ). Up m l z) (sym f) p.at)

    way : (y : End) → (y ≡ x) ⊎ Memᴰ y ends → Up m (suc y.last) (reverse y.form)
    way y (inl d) = subst (λ (z : End). Up m (suc z.last) (reverse z.form)) (sym d) up
    way y (inr i) = p.ways y i

    cov : (n : ℕ) → Covered m ends n ⊎ On m n l → Covered m new n ⊎ On m n l
    cov n (inl d) = inl (record { end = d.end; among = j.kept d.end d.among; on = d.on })
    cov n (inr o) = inr o

    q : Partly m new l r
    q = record { tree = p.tree; at = p.at; ways = λ y i. way y (j.of y i); covered = λ n u. cov n (p.covered n u) }

-- ---- one node more

module _ (m m' : Shape) (ends : List End) (s : Hook) (c n : ℕ) (r : List ℕ) (p : Partly m ends (owner m s) r) (so : Sorted m s c) (k : Links m m' s c n) where
  on_old : {y l : ℕ} {q : List ℕ} → Up m l q → On m y l → On m' y l
  on_old x o = on_kept k.kept (free_off k.was x) o

  pub link_partly : Partly m' ends (suc n) (c ∷ r)
  link_partly = record {
    tree = link_tree m m' s c n p.tree so k;
    at = link_new m m' s c n p.tree so k p.at;
    ways = λ x i. link_old m m' s c n p.tree so k (p.ways x i);
    covered = λ y u. cov y u (ℕ_discrete y n);
  }
    where
      old : (y : ℕ) → Covered m ends y ⊎ On m y (owner m s) → Covered m' ends y ⊎ On m' y (suc n)
      old y (inl q) = inl (record { end = q.end; among = q.among; on = on_old (p.ways q.end q.among) q.on })
      old y (inr o) = inr (above (subst (λ (z : ℕ). On m' y z) (sym k.parent) (on_old p.at o)))

      cov : (y : ℕ) → Used m' y → Dec (y ≡ n) → Covered m' ends y ⊎ On m' y (suc n)
      cov y u (yes e) = inr (subst (λ (z : ℕ). On m' z (suc n)) (sym e) here)
      cov y u (no e) = old y (p.covered y (sym (k.kept.used y e) ∙ u))

pub grown_tree : {m₀ : Shape} {l₀ : ℕ} {m : Shape} {l : ℕ} {r : List ℕ} → Tree m₀ → Grown m₀ l₀ r m l → Tree m
grown_tree t none = t
grown_tree t (more {m = m} {m' = m'} {c = c} {n = n} s g lo so o k) = link_tree m m' s c n (grown_tree t g) so k

-- the chain's last link has its own row
pub grown_up : {m₀ : Shape} {l₀ : ℕ} {m : Shape} {l : ℕ} {r q : List ℕ} → Tree m₀ → Grown m₀ l₀ r m l → Up m₀ l₀ q → Up m l (r ++ q)
grown_up t none u = u
grown_up {q = q} t (more {r = r} {m = m} {m' = m'} {c = c} {n = n} s g lo so o k) u =
    link_new m m' s c n (grown_tree t g) so k (subst (λ (z : ℕ). Up m z (r ++ q)) (sym o) (grown_up t g u))

pub grown_partly : {m₀ : Shape} {ends : List End} {l₀ : ℕ} {m : Shape} {l : ℕ} {r q : List ℕ} → Grown m₀ l₀ r m l → Partly m₀ ends l₀ q → Partly m ends l (r ++ q)
grown_partly none p = p
grown_partly {ends = ends} {q = q} (more {r = r} {m = m} {m' = m'} {c = c} {n = n} s g lo so o k) p =
    link_partly m m' ends s c n (r ++ q) (subst (λ (z : ℕ). Partly m ends z (r ++ q)) (sym o) (grown_partly g p)) so k

-- what is said of rules, which are no nodes of forms, stays
pub grown_rules : {m₀ : Shape} {l₀ : ℕ} {m : Shape} {l : ℕ} {r : List ℕ} → Grown m₀ l₀ r m l → (y : ℕ) → nodes_limit ≤ y → (m.used y ≡ m₀.used y) × (m.cell y ≡ m₀.cell y)
grown_rules none y h = (refl, refl)
grown_rules (more {n = n} s g lo so o k) y h =
    let q = grown_rules g y h in
    let d : ¬ (y ≡ n) = λ e. (let l = lo.low in omega arith) in
    (k.kept.used y d ∙ q.0, k.kept.cell y d ∙ q.1)

-- ---- one node less

-- what remains when an end has gone: the way up from it may be trimmed, since no other end lies on it
pub record Left (m : Shape) (ends : List End) (l : ℕ) : Type 0 where
  pub row : List ℕ
  pub partly : Partly m ends l row
  pub free : (x : End) → Memᴰ x ends → ¬ (On m x.last l)

module _ (m m' : Shape) (ends : List End) (s : Hook) (n : ℕ) (k : Unlinks m m' s n) where
  unlink_partly : {c : ℕ} {r : List ℕ} → Partly m ends (suc n) (c ∷ r) → ((x : End) → Memᴰ x ends → ¬ (x.last ≡ n)) → Partly m' ends (m.parent n) r
  unlink_partly {c} {r} p free = record {
    tree = unlink_tree m m' s n p.tree k;
    at = unlink_old m m' s n p.tree k (up_parent p.at) not_self;
    ways = λ x i. unlink_old m m' s n p.tree k (p.ways x i) (λ e. free x i (suc_inj e));
    covered = λ y u. cov y u (λ e. true_not_false u (ap m'.used e ∙ k.gone));
  }
    where
      not_self : ¬ (m.parent n ≡ suc n)
      not_self e = childless m p.tree (suc n) k.leaf n (up_used p.at) e

      step : (y : ℕ) → ¬ (y ≡ n) → {l : ℕ} → l ≡ suc n → On m y l → On m y (m.parent n)
      step y h e here = absurd (h (suc_inj e))
      step y h e (above {k = j} o) = subst (λ (z : ℕ). On m y (m.parent z)) (suc_inj e) o

      still : {y l : ℕ} {q : List ℕ} → Up m l q → ¬ (l ≡ suc n) → On m y l → On m' y l
      still x h o = on_kept k.kept (leaf_off p.tree k.leaf x h) o

      two : (y : ℕ) → ¬ (y ≡ n) → Covered m ends y ⊎ On m y (suc n) → Covered m' ends y ⊎ On m' y (m.parent n)
      two y h (inl q) = inl (record { end = q.end; among = q.among; on = still (p.ways q.end q.among) (λ e. free q.end q.among (suc_inj e)) q.on })
      two y h (inr o) = inr (still (up_parent p.at) not_self (step y h refl o))

      cov : (y : ℕ) → Used m' y → ¬ (y ≡ n) → Covered m' ends y ⊎ On m' y (m.parent n)
      cov y u h = two y h (p.covered y (sym (k.kept.used y h) ∙ u))

  unlink_left : Left m ends (suc n) → Left m' ends (m.parent n)
  unlink_left x = go x.row x.partly
    where
      go : (r : List ℕ) → Partly m ends (suc n) r → Left m' ends (m.parent n)
      go [] p = absurd (off p.at)
        where
          off : ¬ (Up m (suc n) [])
          off u = elim u [ ]
      go (c ∷ r) p =
          let q = unlink_partly p (λ y i e. x.free y i (subst (λ (z : ℕ). On m z (suc n)) (sym e) here)) in
          record { row = r; partly = q; free = λ y i o. x.free y i (above (on_kept (kept_back k.kept) (free_off k.gone q.at) o)) }

pub trimmed_passes : {m m' : Shape} {ends : List End} {l : ℕ} → Trimmed m l m' → Left m ends l → Passes m' ends
trimmed_passes root x = ended_root x.partly
trimmed_passes (stays e) x = ended_child x.partly e
trimmed_passes {ends = ends} (goes {m = m} {m₁ = m₁} {n = n} s k t) x = trimmed_passes t (unlink_left m m₁ ends s n k x)

-- where no form is a proper beginning of another, x may be trimmed away unless an end that stays has its last node
pub left_of : {m : Shape} {old ends : List End} → Passes m old → PrefixFree (forms old) → (x : End) → Joins x ends old
    → ((y : End) → Memᴰ y ends → ¬ (y.last ≡ x.last)) → Left m ends (suc x.last)
left_of c pf x j apart = record { row = reverse x.form; partly = begin_remove c x j; free = λ y i o. apart y i (end_on c pf y x (j.kept y i) j.joined o) }

-- what is said of nodes that are not on the way up stays, and a rule that had no child is gone
pub trimmed_kept : {m m' : Shape} {ends : List End} {l : ℕ} → Trimmed m l m' → Left m ends l → (y : ℕ) → ¬ (On m y l)
    → (m'.used y ≡ m.used y) × (m'.cell y ≡ m.cell y)
trimmed_kept root x y h = (refl, refl)
trimmed_kept (stays e) x y h = (refl, refl)
trimmed_kept {ends = ends} (goes {m = m} {m₁ = m₁} {n = n} s k t) x y h =
    let d : ¬ (y ≡ n) = λ e. h (subst (λ (z : ℕ). On m z (suc n)) (sym e) here) in
    let x' = unlink_left m m₁ ends s n k x in
    let q = trimmed_kept t x' y (λ o. h (above (on_kept (kept_back k.kept) (free_off k.gone x'.partly.at) o))) in
    (q.0 ∙ k.kept.used y d, q.1 ∙ k.kept.cell y d)

pub trimmed_gone : {m m' : Shape} {ends : List End} {n : ℕ} → Trimmed m (suc n) m' → Left m ends (suc n) → m.first (suc n) ≡ 0 → m'.used n ≡ false
trimmed_gone (stays e) x z = absurd (omega arith)
trimmed_gone {ends = ends} (goes {m = m} {m₁ = m₁} {n = n} s k t) x z =
    let x' = unlink_left m m₁ ends s n k x in
    (trimmed_kept t x' n (free_off k.gone x'.partly.at)).0 ∙ k.gone

-- passing sees the ends by membership alone
pub passes_same : {m : Shape} (a b : List End) → ((y : End) → Memᴰ y a ↔ Memᴰ y b) → Passes m a → Passes m b
passes_same a b h p = record {
  goes = p.goes;
  comes = p.comes;
  ways = λ y i. p.ways y ((h y).1 i);
  covered = λ n u. let q = p.covered n u in record { end = q.end; among = (h q.end).0 q.among; on = q.on };
}
