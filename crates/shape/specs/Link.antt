-- One node more: the tree stays a tree, all rows stay, and the new node has its own
use Rattle.std.specs.Prelude.{◌≡◌, refl, ◌⊎◌, List, [], ◌∷◌, ℕ, zero, suc}
use Rattle.std.proofs.Common.{sym, ap, ◌∙◌, subst, inl, inr, arith}
use Rattle.std.proofs.Math.Decide.{ℕ_discrete}
use Rattle.std.proofs.Math.Nat.{suc_inj}
use Rattle.deciding.specs.Deciding.{true_not_false}
use Rattle.shape.specs.Shape.{Shape, Hook, Hook-discrete, child, after, Used, Valid, to, owner, Fits, Source, Up, top, down, Tree}
use Rattle.shape.specs.Change.{Links, Sorted}
use Rattle.shape.specs.Keeping.{valid_kept, owner_kept, floor_of, fits_kept, up_kept, free_off}

module _ (m m' : Shape) (s : Hook) (c n : ℕ) (t : Tree m) (so : Sorted m s c) (k : Links m m' s c n) where
  other : (y : ℕ) → Used m y → ¬ (y ≡ n)
  other y u e = true_not_false u (ap m.used e ∙ k.was)

  not_after : (z : Hook) → Valid m z → ¬ (z ≡ after n)
  not_after z v e = other n (subst (λ (x : Hook). Valid m x) e v) refl

  not_child : (z : Hook) → Valid m z → ¬ (z ≡ child (suc n))
  not_child z v e = other n (subst (λ (x : Hook). Valid m x) e v) refl

  still : (z : Hook) → Valid m z → Valid m' z
  still z v = valid_kept k.kept z (not_after z v) (not_child z v) v

  -- a valid hook is an old one, or one of the two of the new node
  old : (z : Hook) → Valid m' z → Valid m z ⊎ ((z ≡ after n) ⊎ (z ≡ child (suc n)))
  old (child zero) v = inl tt
  old (child (suc y)) v = go (ℕ_discrete y n)
    where
      go : Dec (y ≡ n) → Valid m (child (suc y)) ⊎ ((child (suc y) ≡ after n) ⊎ (child (suc y) ≡ child (suc n)))
      go (yes e) = inr (inr (ap (λ (x : ℕ). child (suc x)) e))
      go (no e) = inl (sym (k.kept.used y e) ∙ v)
  old (after y) v = go (ℕ_discrete y n)
    where
      go : Dec (y ≡ n) → Valid m (after y) ⊎ ((after y ≡ after n) ⊎ (after y ≡ child (suc n)))
      go (yes e) = inr (inl (ap after e))
      go (no e) = inl (sym (k.kept.used y e) ∙ v)

  fits_new : Fits m' s n
  fits_new = record {
    used = k.now;
    under = k.parent ∙ sym (owner_kept k.kept s (not_after s so.valid));
    above = floor_of k.kept s (not_after s so.valid) (let b = k.cell in omega (arith, so.above));
  }

  fits_next : {y : ℕ} → to m s ≡ suc y → Fits m' (after n) y
  fits_next {y} e = let f = t.goes s so.valid e in let o = other y f.used in record {
    used = k.kept.used y o ∙ f.used;
    under = k.kept.parent y o ∙ f.under ∙ sym k.parent;
    above = let a = k.cell in let b = k.kept.cell y o in omega (arith, so.below e);
  }

  goes' : (z : Hook) → Valid m' z → {y : ℕ} → to m' z ≡ suc y → Fits m' z y
  goes' z v {y} e = go (old z v) (Hook-discrete ℕ_discrete z s)
    where
      go : Valid m z ⊎ ((z ≡ after n) ⊎ (z ≡ child (suc n))) → Dec (z ≡ s) → Fits m' z y
      go (inl w) (no d) = let f = t.goes z w (sym (k.hooks z w d) ∙ e) in fits_kept k.kept z (not_after z w) (other y f.used) f
      go (inl w) (yes d) =
          let q : n ≡ y = suc_inj (sym k.here ∙ ap (to m') (sym d) ∙ e) in
          subst (λ (x : Hook). Fits m' x y) (sym d) (subst (λ (x : ℕ). Fits m' s x) q fits_new)
      go (inr (inl a)) d = subst (λ (x : Hook). Fits m' x y) (sym a) (fits_next (sym k.next ∙ ap (to m') (sym a) ∙ e))
      go (inr (inr a)) d = absurd (omega (arith, sym k.first ∙ ap (to m') (sym a) ∙ e))

  comes' : (y : ℕ) → Used m' y → Source m' y
  comes' y u = go (ℕ_discrete y n)
    where
      src : (o : Source m y) → Dec (o.at ≡ s) → Source m' y
      src o (yes d) = record { at = after n; valid = k.now; leads = k.next ∙ ap (to m) (sym d) ∙ o.leads }
      src o (no d) = record { at = o.at; valid = still o.at o.valid; leads = k.hooks o.at o.valid d ∙ o.leads }

      go : Dec (y ≡ n) → Source m' y
      go (yes e) = record { at = s; valid = still s so.valid; leads = k.here ∙ ap suc (sym e) }
      go (no e) = let o = t.comes y (sym (k.kept.used y e) ∙ u) in src o (Hook-discrete ℕ_discrete o.at s)

  owner_up : (z : Hook) → Valid m z → (r : List ℕ) × Up m (owner m z) r
  owner_up (child zero) v = ([], top)
  owner_up (child (suc y)) v = t.rooted y v
  owner_up (after y) v = go (t.rooted y v).1
    where
      go : {r : List ℕ} → Up m (suc y) r → (r : List ℕ) × Up m (m.parent y) r
      go (down {r = r} u e x) = (r, x)

  pub link_old : {l : ℕ} {r : List ℕ} → Up m l r → Up m' l r
  link_old x = up_kept k.kept (free_off k.was x) x

  pub link_new : {r : List ℕ} → Up m (owner m s) r → Up m' (suc n) (c ∷ r)
  link_new {r} x = down k.now k.cell (subst (λ (p : ℕ). Up m' p r) (sym k.parent) (link_old x))

  rooted' : (y : ℕ) → Used m' y → (r : List ℕ) × Up m' (suc y) r
  rooted' y u = go (ℕ_discrete y n)
    where
      go : Dec (y ≡ n) → (r : List ℕ) × Up m' (suc y) r
      go (yes e) = let q = owner_up s so.valid in (c ∷ q.0, subst (λ (x : ℕ). Up m' (suc x) (c ∷ q.0)) (sym e) (link_new q.1))
      go (no e) = let q = t.rooted y (sym (k.kept.used y e) ∙ u) in (q.0, link_old q.1)

  pub link_tree : Tree m'
  link_tree = record { goes = goes'; comes = comes'; rooted = rooted' }
