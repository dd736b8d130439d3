-- One node less: the tree stays a tree, and all rows stay but its own
use Rattle.std.specs.Prelude.{◌≡◌, refl, List, ℕ, suc}
use Rattle.std.proofs.Common.{sym, ap, ◌∙◌, subst, arith}
use Rattle.std.proofs.Math.Decide.{ℕ_discrete}
use Rattle.std.proofs.Math.Nat.{suc_inj}
use Rattle.deciding.specs.Deciding.{true_not_false}
use Rattle.shape.specs.Shape.{Shape, Hook, Hook-discrete, child, after, Used, Valid, to, Fits, Source, Up, Tree}
use Rattle.shape.specs.Order.{one_source}
use Rattle.shape.specs.Change.{Unlinks}
use Rattle.shape.specs.Keeping.{kept_back, valid_kept, fits_kept, up_kept, leaf_off}

module _ (m m' : Shape) (s : Hook) (n : ℕ) (t : Tree m) (k : Unlinks m m' s n) where
  it : Fits m s n
  it = t.goes s k.valid k.leads

  other : (y : ℕ) → Used m' y → ¬ (y ≡ n)
  other y u e = true_not_false u (ap m'.used e ∙ k.gone)

  not_after : (z : Hook) → Valid m' z → ¬ (z ≡ after n)
  not_after z v e = other n (subst (λ (x : Hook). Valid m' x) e v) refl

  not_child : (z : Hook) → Valid m' z → ¬ (z ≡ child (suc n))
  not_child z v e = other n (subst (λ (x : Hook). Valid m' x) e v) refl

  was_valid : (z : Hook) → Valid m' z → Valid m z
  was_valid z v = valid_kept (kept_back k.kept) z (not_after z v) (not_child z v) v

  was_used : (y : ℕ) → Used m' y → Used m y
  was_used y u = was_valid (after y) u

  s_still : Valid m' s
  s_still = valid_kept k.kept s not_own not_below k.valid
    where
      not_own : ¬ (s ≡ after n)
      not_own q = let f : Fits m (after n) n = subst (λ (z : Hook). Fits m z n) q it in omega (arith, f.above)

      not_below : ¬ (s ≡ child (suc n))
      not_below q = omega (arith, sym (ap (to m) q) ∙ k.leads, k.leaf)

  goes' : (z : Hook) → Valid m' z → {y : ℕ} → to m' z ≡ suc y → Fits m' z y
  goes' z v {y} e = go (Hook-discrete ℕ_discrete z s)
    where
      go : Dec (z ≡ s) → Fits m' z y
      go (no d) =
          let w = sym (k.hooks z v d) ∙ e in
          fits_kept k.kept z (not_after z v) (λ q. d (one_source m t z s (was_valid z v) k.valid w (k.leads ∙ ap suc (sym q)))) (t.goes z (was_valid z v) w)
      go (yes d) =
          let f = t.goes (after n) it.used (sym k.here ∙ ap (to m') (sym d) ∙ e) in
          let o : ¬ (y ≡ n) = λ q. omega (arith, f.above, ap m.cell q) in
          subst (λ (x : Hook). Fits m' x y) (sym d)
          (fits_kept k.kept s (not_after s s_still) o (record { used = f.used; under = f.under ∙ it.under; above = omega (arith, f.above, it.above) }))

  comes' : (y : ℕ) → Used m' y → Source m' y
  comes' y u = go (t.comes y (was_used y u))
    where
      by : (o : Source m y) → Dec (o.at ≡ after n) → Dec (o.at ≡ child (suc n)) → Source m' y
      by o (yes d) c = record { at = s; valid = s_still; leads = k.here ∙ ap (to m) (sym d) ∙ o.leads }
      by o (no d) (yes c) = absurd (omega (arith, sym (ap (to m) c) ∙ o.leads, k.leaf))
      by o (no d) (no c) =
          let w = valid_kept k.kept o.at d c o.valid in
          record { at = o.at; valid = w; leads = k.hooks o.at w (λ q. other y u (suc_inj (sym o.leads ∙ ap (to m) q ∙ k.leads))) ∙ o.leads }

      go : Source m y → Source m' y
      go o = by o (Hook-discrete ℕ_discrete o.at (after n)) (Hook-discrete ℕ_discrete o.at (child (suc n)))

  pub unlink_old : {l : ℕ} {r : List ℕ} → Up m l r → ¬ (l ≡ suc n) → Up m' l r
  unlink_old x h = up_kept k.kept (leaf_off t k.leaf x h) x

  pub unlink_tree : Tree m'
  unlink_tree = record {
    goes = goes';
    comes = comes';
    rooted = λ y u. let q = t.rooted y (was_used y u) in (q.0, unlink_old q.1 (λ e. other y u (suc_inj e)));
  }
