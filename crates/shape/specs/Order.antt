-- Siblings ascend by cell and none is passed over: each used node is its parent's i-th child, and one parent has one node for one cell
use Rattle.std.specs.Prelude.{◌≡◌, refl, ◌⊎◌, List, ℕ, zero, suc, ◌≤◌, ◌<◌}
use Rattle.std.proofs.Common.{sym, ap, ◌∙◌, inl, inr, arith}
use Rattle.std.proofs.Math.Decide.{dec_lt, ℕ_discrete}
use Rattle.std.proofs.Math.Nat.{suc_inj}
use Rattle.shape.specs.Shape.{Shape, Hook, child, after, Used, Live, Valid, to, owner, floor, Fits, Source, Up, down, Tree}
use Rattle.shape.specs.Basics.{up_live}

module _ (m : Shape) where
  -- the sibling after a link
  abbrev pub follow : ℕ → ℕ
  follow zero = zero
  follow (suc n) = m.next n

  -- the i-th child of a link, as a link
  abbrev pub ith : ℕ → ℕ → ℕ
  ith p zero = m.first p
  ith p (suc i) = follow (ith p i)

  -- a child that is not the first comes after another
  pub ith_after : (p i : ℕ) {n : ℕ} → ith p (suc i) ≡ suc n → (k : ℕ) × (ith p i ≡ suc k) × (m.next k ≡ suc n)
  ith_after p i {n} e = go (ith p i) refl
    where
      go : (x : ℕ) → ith p i ≡ x → (k : ℕ) × (ith p i ≡ suc k) × (m.next k ≡ suc n)
      go zero h = absurd (omega (arith, ap follow (sym h) ∙ e))
      go (suc k) h = (k, h, ap follow (sym h) ∙ e)

  pub ith_before : (p j i : ℕ) → i ≤ j → {n : ℕ} → ith p j ≡ suc n → (k : ℕ) × (ith p i ≡ suc k)
  ith_before p zero i h {n} e = let z : i ≡ 0 = omega arith in (n, ap (ith p) z ∙ e)
  ith_before p (suc j) i h {n} e = go (ℕ_discrete i (suc j)) (λ l. ith_before p j i l (ith_after p j e).1)
    where
      go : Dec (i ≡ suc j) → (i ≤ j → (k : ℕ) × (ith p i ≡ suc k)) → (k : ℕ) × (ith p i ≡ suc k)
      go (yes d) ih = (n, ap (ith p) d ∙ e)
      go (no d) ih = ih (omega arith)

module _ (m : Shape) (t : Tree m) where
  pub ith_is : (p i : ℕ) → Live m p → {n : ℕ} → ith m p i ≡ suc n → Used m n × (m.parent n ≡ p)
  ith_is p zero l e = let f = t.goes (child p) l e in (f.used, f.under)
  ith_is p (suc i) l e =
      let q = ith_after m p i e in
      let a = ith_is p i l q.1 in
      let f = t.goes (after q.0) a.0 q.2 in
      (f.used, f.under ∙ a.1)

  -- the cell grows with the index
  cells_grow : (p j : ℕ) → Live m p → (i : ℕ) {k n : ℕ} → i < j → ith m p i ≡ suc k → ith m p j ≡ suc n → m.cell k < m.cell n
  cells_grow p zero l i h a b = absurd (omega arith)
  cells_grow p (suc j) l i {k} {n} h a b =
      let q = ith_after m p j b in
      let f = t.goes (after q.0) (ith_is p j l q.1).0 q.2 in
      go q.0 q.1 f.above (dec_lt i j) (λ lt. cells_grow p j l i lt a q.1)
    where
      go : (x : ℕ) → ith m p j ≡ suc x → suc (m.cell x) ≤ m.cell n → Dec (i < j) → (i < j → m.cell k < m.cell x) → m.cell k < m.cell n
      go x e f (yes lt) ih = let c = ih lt in omega arith
      go x e f (no ge) ih =
          let ij : i ≡ j = omega arith in
          let kx : k ≡ x = suc_inj (sym a ∙ ap (ith m p) ij ∙ e) in
          omega (arith, ap m.cell kx)

  pub parent_live : (n : ℕ) → Used m n → Live m (m.parent n)
  parent_live n u = go (t.rooted n u).1
    where
      go : {r : List ℕ} → Up m (suc n) r → Live m (m.parent n)
      go (down u e x) = up_live x

  -- each used node is a child of its parent
  pub index : (n : ℕ) → Used m n → (i : ℕ) × (ith m (m.parent n) i ≡ suc n)
  index n u = go (suc (m.cell n)) n u (omega arith)
    where
      go : (f n : ℕ) → Used m n → m.cell n < f → (i : ℕ) × (ith m (m.parent n) i ≡ suc n)
      go zero n u h = absurd (omega arith)
      go (suc f) n u h = by s.at s.valid s.leads (λ k uk hk. go f k uk hk)
        where
          s : Source m n
          s = t.comes n u

          by : (z : Hook) → Valid m z → to m z ≡ suc n → ((k : ℕ) → Used m k → m.cell k < f → (i : ℕ) × (ith m (m.parent k) i ≡ suc k))
              → (i : ℕ) × (ith m (m.parent n) i ≡ suc n)
          by (child p) v e ih = (0, ap m.first (t.goes (child p) v e).under ∙ e)
          by (after k) v e ih =
              let g = t.goes (after k) v e in
              let q = ih k v (omega (arith, g.above)) in
              (suc q.0, ap (λ (x : ℕ). follow m (ith m x q.0)) g.under ∙ ap (follow m) q.1 ∙ e)

  -- two children of one link with one cell are one node
  ith_one : (p i j : ℕ) → Live m p → {k n : ℕ} → ith m p i ≡ suc k → ith m p j ≡ suc n → m.cell k ≡ m.cell n → (i ≡ j) × (k ≡ n)
  ith_one p i j l {k} {n} a b c = go (dec_lt i j) (dec_lt j i)
    where
      go : Dec (i < j) → Dec (j < i) → (i ≡ j) × (k ≡ n)
      go (yes h) d = absurd (omega (arith, cells_grow p j l i h a b))
      go (no h) (yes g) = absurd (omega (arith, cells_grow p i l j g b a))
      go (no h) (no g) = let e : i ≡ j = omega arith in (e, suc_inj (sym a ∙ ap (ith m p) e ∙ b))

  pub one_sibling : (k n : ℕ) → Used m k → Used m n → m.parent k ≡ m.parent n → m.cell k ≡ m.cell n → k ≡ n
  one_sibling k n uk un e c =
      let a = index k uk in let b = index n un in
      (ith_one (m.parent n) a.0 b.0 (parent_live n un) (ap (λ (x : ℕ). ith m x a.0) (sym e) ∙ a.1) b.1 c).1

  -- which child of its owner a hook leads to
  record Leading (s : Hook) : Type 0 where
    at : ℕ
    is : to m s ≡ ith m (owner m s) at
    low : (i : ℕ) → i < at → {k : ℕ} → ith m (owner m s) i ≡ suc k → m.cell k < floor m s
    live : Live m (owner m s)

  leading : (s : Hook) → Valid m s → Leading s
  leading (child l) v = record { at = 0; is = refl; low = λ i h e. absurd (omega arith); live = v }
  leading (after n) v = let x = index n v in record {
    at = suc x.0;
    is = ap (follow m) (sym x.1);
    live = parent_live n v;
    low = λ i h {k} e. go i h e (ℕ_discrete i x.0);
  }
    where
      x : (i : ℕ) × (ith m (m.parent n) i ≡ suc n)
      x = index n v

      go : (i : ℕ) → i < suc x.0 → {k : ℕ} → ith m (m.parent n) i ≡ suc k → Dec (i ≡ x.0) → m.cell k < suc (m.cell n)
      go i h {k} e (yes d) = let q : k ≡ n = suc_inj (sym e ∙ ap (ith m (m.parent n)) d ∙ x.1) in omega (arith, ap m.cell q)
      go i h {k} e (no d) = omega (arith, cells_grow (m.parent n) x.0 (parent_live n v) i (omega arith) e x.1)

  -- a walk along siblings that stands at s, before the cell of n, comes to n: the next node is n, or has a smaller cell
  pub ahead : (s : Hook) → Valid m s → (n : ℕ) → Used m n → m.parent n ≡ owner m s → floor m s ≤ m.cell n
      → (k : ℕ) × (to m s ≡ suc k) × ((k ≡ n) ⊎ (m.cell k < m.cell n))
  ahead s v n u e h = (q.0, s'.is ∙ q.1, go (ℕ_discrete s'.at x.0))
    where
      s' : Leading s
      s' = leading s v

      x : (i : ℕ) × (ith m (owner m s) i ≡ suc n)
      x = let y = index n u in (y.0, ap (λ (z : ℕ). ith m z y.0) (sym e) ∙ y.1)

      before : Dec (x.0 < s'.at) → s'.at ≤ x.0
      before (yes lt) = absurd (omega (arith, s'.low x.0 lt x.1))
      before (no ge) = omega arith

      q : (k : ℕ) × (ith m (owner m s) s'.at ≡ suc k)
      q = ith_before m (owner m s) x.0 s'.at (before (dec_lt x.0 s'.at)) x.1

      go : Dec (s'.at ≡ x.0) → (q.0 ≡ n) ⊎ (m.cell q.0 < m.cell n)
      go (yes d) = inl (suc_inj (sym q.1 ∙ ap (ith m (owner m s)) d ∙ x.1))
      go (no d) = inr (cells_grow (owner m s) x.0 s'.live s'.at (let b = before (dec_lt x.0 s'.at) in omega arith) q.1 x.1)

  -- a hook's link passes over no node
  no_skip : (s : Hook) → Valid m s → (b n : ℕ) → Used m b → m.parent b ≡ owner m s → floor m s ≤ m.cell b → to m s ≡ suc n → m.cell b < m.cell n → ⊥
  no_skip s v b n u p h e c = go q.2
    where
      q : (k : ℕ) × (to m s ≡ suc k) × ((k ≡ b) ⊎ (m.cell k < m.cell b))
      q = ahead s v b u p h

      kn : q.0 ≡ n
      kn = suc_inj (sym q.1 ∙ e)

      go : (q.0 ≡ b) ⊎ (m.cell q.0 < m.cell b) → ⊥
      go (inl d) = omega (arith, ap m.cell (sym d ∙ kn))
      go (inr d) = omega (arith, ap m.cell kn)

  -- a node has one source
  pub one_source : (s z : Hook) → Valid m s → Valid m z → {n : ℕ} → to m s ≡ suc n → to m z ≡ suc n → s ≡ z
  one_source (child a) (child b) v w e f = ap child (sym (t.goes (child a) v e).under ∙ (t.goes (child b) w f).under)
  one_source (child a) (after b) v w {n} e f =
      let g = t.goes (after b) w f in
      absurd (no_skip (child a) v b n w (sym g.under ∙ (t.goes (child a) v e).under) (omega arith) e g.above)
  one_source (after a) (child b) v w {n} e f =
      let g = t.goes (after a) v e in
      absurd (no_skip (child b) w a n v (sym g.under ∙ (t.goes (child b) w f).under) (omega arith) f g.above)
  one_source (after a) (after b) v w {n} e f = ap after (go (dec_lt (m.cell a) (m.cell b)) (dec_lt (m.cell b) (m.cell a)))
    where
      g : Fits m (after a) n
      g = t.goes (after a) v e

      h : Fits m (after b) n
      h = t.goes (after b) w f

      p : m.parent a ≡ m.parent b
      p = sym g.under ∙ h.under

      go : Dec (m.cell a < m.cell b) → Dec (m.cell b < m.cell a) → a ≡ b
      go (yes d) y = absurd (no_skip (after a) v b n w (sym p) d e h.above)
      go (no d) (yes y) = absurd (no_skip (after b) w a n v p y f g.above)
      go (no d) (no y) = one_sibling a b v w p (omega arith)

  -- a childless node is nobody's parent
  pub childless : (l : ℕ) → m.first l ≡ 0 → (n : ℕ) → Used m n → m.parent n ≡ l → ⊥
  childless l z n u e =
      let x = index n u in
      let q = ith_before m (m.parent n) x.0 0 (omega arith) x.1 in
      omega (arith, sym q.1, ap m.first e ∙ z)
