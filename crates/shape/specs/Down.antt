-- A walk down from the root that takes each node it comes to from those that are left: where it ends and none is left the memory is a tree,
-- and in a tree it never comes to a node that is not left
use Rattle.std.specs.Prelude.{◌≡◌, refl, ◌⊎◌, Bool, true, false, ℕ, zero, suc, ◌≤◌}
use Rattle.std.proofs.Common.{sym, ap, ◌∙◌, subst, inl, inr, arith}
use mathlib.Core.List.Memᴰ
use mathlib.Core.List.{List, [], ◌∷◌, Memᴰ}
use Rattle.std.proofs.Math.Decide.{ℕ_discrete}
use Rattle.std.proofs.Math.Nat.{suc_inj}
use Rattle.deciding.specs.Deciding.{true_not_false}
use Rattle.term.specs.Beginnings.{Distinct}
use Rattle.shape.specs.Shape.{Shape, Hook, child, after, Used, Valid, to, owner, floor, Fits, Up, down, Tree}
use Rattle.shape.specs.Order.{one_source}
use Rattle.shape.specs.Unfolded.{reach}

module _ (m : Shape) where
  -- the node has been come to
  pub record Seen (left : ℕ → Bool) (n : ℕ) : Type 0 where
    pub used : Used m n
    pub gone : left n ≡ false

  -- the hook is the root's, or that of a node which has been come to
  abbrev pub Known : (ℕ → Bool) → Hook → Type 0
  Known left (child zero) = Unit {0}
  Known left (child (suc n)) = Seen left n
  Known left (after n) = Seen left n

  -- the hook leads to no node, which not every hook may, or to one that fits and has been come to
  pub data Done (Bare : Hook → Type 0) (left : ℕ → Bool) (s : Hook) : Type 0 where
    none : to m s ≡ 0 → Bare s → Done Bare left s
    some : (n : ℕ) → to m s ≡ suc n → Fits m s n → Seen left n → Done Bare left s

  -- whence a node was come to
  pub record From (todo : List Hook) (left : ℕ → Bool) (n : ℕ) : Type 0 where
    pub at : Hook
    pub known : Known left at
    pub done : ¬ (Memᴰ at todo)
    pub leads : to m at ≡ suc n

  -- A walk that has the hooks `todo` before it and the nodes `left` to come to. Bare: which hooks may lead to no node; Told: what it has
  -- found of a node with its row
  pub record Walking (Bare : Hook → Type 0) (Told : ℕ → List ℕ → Type 0) (todo : List Hook) (left : ℕ → Bool) : Type 0 where
    pub within : (n : ℕ) → left n ≡ true → Used m n
    pub known : (s : Hook) → Memᴰ s todo → Known left s
    pub once : Distinct todo
    pub each : (s : Hook) → Known left s → Memᴰ s todo ⊎ Done Bare left s
    pub from : (n : ℕ) → Seen left n → From todo left n
    pub rows : (n : ℕ) → Seen left n → (r : List ℕ) × Up m (suc n) r × Told n r

  pub known_valid : (left : ℕ → Bool) (s : Hook) → Known left s → Valid m s
  known_valid left (child zero) k = tt
  known_valid left (child (suc n)) k = k.used
  known_valid left (after n) k = k.used

module _ (m : Shape) (Bare : Hook → Type 0) (Told : ℕ → List ℕ → Type 0) where
  -- ---- the steps

  pub start : Walking m Bare Told (child 0 ∷ []) m.used
  start = record {
    within = λ n u. u;
    known = λ s i. at s (Memᴰ.cases_cons i);
    once = ((λ i. Memᴰ.not-nil i), tt);
    each = each;
    from = λ n s. absurd (none n s);
    rows = λ n s. absurd (none n s);
  }
    where
      none : (n : ℕ) → Seen m m.used n → ⊥
      none n s = true_not_false s.used s.gone

      at : (s : Hook) → (s ≡ child 0) ⊎ Memᴰ s [] → Known m m.used s
      at s (inl e) = subst (λ (z : Hook). Known m m.used z) (sym e) tt
      at s (inr i) = absurd (Memᴰ.not-nil i)

      each : (s : Hook) → Known m m.used s → Memᴰ s (child 0 ∷ []) ⊎ Done m Bare m.used s
      each (child zero) k = inl (Memᴰ.head refl)
      each (child (suc n)) k = absurd (none n k)
      each (after n) k = absurd (none n k)

  module _ (left : ℕ → Bool) (s : Hook) (ss : List Hook) (w : Walking m Bare Told (s ∷ ss) left) where
    -- a hook that leads nowhere
    pub pass : to m s ≡ 0 → Bare s → Walking m Bare Told ss left
    pass e b = record {
      within = w.within;
      known = λ z i. w.known z (Memᴰ.tail i);
      once = w.once.1;
      each = λ z k. each z (w.each z k);
      from = λ n x. let f = w.from n x in record { at = f.at; known = f.known; done = λ i. f.done (Memᴰ.tail i); leads = f.leads };
      rows = w.rows;
    }
      where
        one : (z : Hook) → (z ≡ s) ⊎ Memᴰ z ss → Memᴰ z ss ⊎ Done m Bare left z
        one z (inl q) = inr (subst (λ (y : Hook). Done m Bare left y) (sym q) (none e b))
        one z (inr i) = inl i

        each : (z : Hook) → Memᴰ z (s ∷ ss) ⊎ Done m Bare left z → Memᴰ z ss ⊎ Done m Bare left z
        each z (inl i) = one z (Memᴰ.cases_cons i)
        each z (inr d) = inr d

    -- a hook that leads to a node which is left and fits
    module _ (n : ℕ) (e : to m s ≡ suc n) (l : left n ≡ true) (p : m.parent n ≡ owner m s) (c : floor m s ≤ m.cell n)
        (r : List ℕ) (up : Up m (owner m s) r) (tell : Told n (m.cell n ∷ r))
        (left' : ℕ → Bool) (here : left' n ≡ false) (other : (y : ℕ) → ¬ (y ≡ n) → left' y ≡ left y) where
      fits : Fits m s n
      fits = record { used = w.within n l; under = p; above = c }

      now : Seen m left' n
      now = record { used = w.within n l; gone = here }

      not_yet : ¬ (Seen m left n)
      not_yet x = true_not_false l x.gone

      keep : (y : ℕ) → Seen m left y → Seen m left' y
      keep y x = record { used = x.used; gone = other y (λ d. not_yet (subst (λ (z : ℕ). Seen m left z) d x)) ∙ x.gone }

      old : (y : ℕ) → Seen m left' y → Dec (y ≡ n) → (y ≡ n) ⊎ Seen m left y
      old y x (yes d) = inl d
      old y x (no d) = inr (record { used = x.used; gone = sym (other y d) ∙ x.gone })

      keep_known : (z : Hook) → Known m left z → Known m left' z
      keep_known (child zero) k = tt
      keep_known (child (suc y)) k = keep y k
      keep_known (after y) k = keep y k

      keep_done : (z : Hook) → Done m Bare left z → Done m Bare left' z
      keep_done z (none a b) = none a b
      keep_done z (some y a f x) = some y a f (keep y x)

      -- a hook known before is neither of the two new ones
      new : (z : Hook) → Known m left z → Memᴰ z (child (suc n) ∷ after n ∷ ss) → Memᴰ z ss
      new z k (Memᴰ.head q) = absurd (not_yet (subst (λ (y : Hook). Known m left y) q k))
      new z k (Memᴰ.tail (Memᴰ.head q)) = absurd (not_yet (subst (λ (y : Hook). Known m left y) q k))
      new z k (Memᴰ.tail (Memᴰ.tail i)) = i

      within' : (y : ℕ) → left' y ≡ true → Dec (y ≡ n) → Used m y
      within' y x (yes d) = absurd (true_not_false x (ap left' d ∙ here))
      within' y x (no d) = w.within y (sym (other y d) ∙ x)

      known' : (z : Hook) → Memᴰ z (child (suc n) ∷ after n ∷ ss) → Known m left' z
      known' z (Memᴰ.head q) = subst (λ (y : Hook). Known m left' y) (sym q) now
      known' z (Memᴰ.tail (Memᴰ.head q)) = subst (λ (y : Hook). Known m left' y) (sym q) now
      known' z (Memᴰ.tail (Memᴰ.tail i)) = keep_known z (w.known z (Memᴰ.tail i))

      member : (z : Hook) → (z ≡ s) ⊎ Memᴰ z ss → Memᴰ z (child (suc n) ∷ after n ∷ ss) ⊎ Done m Bare left' z
      member z (inl q) = inr (subst (λ (y : Hook). Done m Bare left' y) (sym q) (some n e fits now))
      member z (inr i) = inl (Memᴰ.tail (Memᴰ.tail i))

      before : (z : Hook) → Memᴰ z (s ∷ ss) ⊎ Done m Bare left z → Memᴰ z (child (suc n) ∷ after n ∷ ss) ⊎ Done m Bare left' z
      before z (inl i) = member z (Memᴰ.cases_cons i)
      before z (inr d) = inr (keep_done z d)

      each' : (z : Hook) → Known m left' z → Memᴰ z (child (suc n) ∷ after n ∷ ss) ⊎ Done m Bare left' z
      each' (child zero) k = before (child zero) (w.each (child zero) tt)
      each' (child (suc y)) k = go (old y k (ℕ_discrete y n))
        where
          go : (y ≡ n) ⊎ Seen m left y → Memᴰ (child (suc y)) (child (suc n) ∷ after n ∷ ss) ⊎ Done m Bare left' (child (suc y))
          go (inl d) = inl (Memᴰ.head (ap (λ (x : ℕ). child (suc x)) d))
          go (inr x) = before (child (suc y)) (w.each (child (suc y)) x)
      each' (after y) k = go (old y k (ℕ_discrete y n))
        where
          go : (y ≡ n) ⊎ Seen m left y → Memᴰ (after y) (child (suc n) ∷ after n ∷ ss) ⊎ Done m Bare left' (after y)
          go (inl d) = inl (Memᴰ.tail (Memᴰ.head (ap after d)))
          go (inr x) = before (after y) (w.each (after y) x)

      s_known : Known m left s
      s_known = w.known s (Memᴰ.head refl)

      from' : (y : ℕ) → (y ≡ n) ⊎ Seen m left y → From m (child (suc n) ∷ after n ∷ ss) left' y
      from' y (inl d) = record { at = s; known = keep_known s s_known; done = λ i. w.once.0 (new s s_known i); leads = e ∙ ap suc (sym d) }
      from' y (inr x) =
          let f = w.from y x in
          record { at = f.at; known = keep_known f.at f.known; done = λ i. f.done (Memᴰ.tail (new f.at f.known i)); leads = f.leads }

      rows' : (y : ℕ) → (y ≡ n) ⊎ Seen m left y → (r : List ℕ) × Up m (suc y) r × Told y r
      rows' y (inl d) = subst (λ (z : ℕ). (r : List ℕ) × Up m (suc z) r × Told z r) (sym d)
          (m.cell n ∷ r, down (w.within n l) refl (subst (λ (z : ℕ). Up m z r) (sym p) up), tell)
      rows' y (inr x) = w.rows y x

      pub enter : Walking m Bare Told (child (suc n) ∷ after n ∷ ss) left'
      enter = record {
        within = λ y x. within' y x (ℕ_discrete y n);
        known = known';
        once = ((λ i. not_in (child (suc n)) not_yet (skip i)), ((λ i. not_in (after n) not_yet i), w.once.1));
        each = each';
        from = λ y x. from' y (old y x (ℕ_discrete y n));
        rows = λ y x. rows' y (old y x (ℕ_discrete y n));
      }
        where
          not_in : (z : Hook) → ¬ (Known m left z) → Memᴰ z ss → ⊥
          not_in z h i = h (w.known z (Memᴰ.tail i))

          skip : Memᴰ (child (suc n)) (after n ∷ ss) → Memᴰ (child (suc n)) ss
          skip (Memᴰ.head q) = let z : ◌≡◌ {A = ℕ} 0 1 = cc in absurd (omega arith)
          skip (Memᴰ.tail i) = i

  -- the order of the hooks says nothing
  pub swap : (left : ℕ → Bool) (a b : Hook) (ss : List Hook) → Walking m Bare Told (a ∷ b ∷ ss) left → Walking m Bare Told (b ∷ a ∷ ss) left
  swap left a b ss w = record {
    within = w.within;
    known = λ z i. w.known z (turn a b z i);
    once = (second, ((λ i. w.once.0 (Memᴰ.tail i)), w.once.1.1));
    each = λ z k. each z (w.each z k);
    from = λ n x. let f = w.from n x in record { at = f.at; known = f.known; done = λ i. f.done (turn a b f.at i); leads = f.leads };
    rows = w.rows;
  }
    where
      turn : (a b z : Hook) → Memᴰ z (b ∷ a ∷ ss) → Memᴰ z (a ∷ b ∷ ss)
      turn a b z (Memᴰ.head q) = Memᴰ.tail (Memᴰ.head q)
      turn a b z (Memᴰ.tail (Memᴰ.head q)) = Memᴰ.head q
      turn a b z (Memᴰ.tail (Memᴰ.tail i)) = Memᴰ.tail (Memᴰ.tail i)

      second : ¬ (Memᴰ b (a ∷ ss))
      second (Memᴰ.head q) = w.once.0 (Memᴰ.head (sym q))
      second (Memᴰ.tail i) = w.once.1.0 i

      each : (z : Hook) → Memᴰ z (a ∷ b ∷ ss) ⊎ Done m Bare left z → Memᴰ z (b ∷ a ∷ ss) ⊎ Done m Bare left z
      each z (inl i) = inl (turn b a z i)
      each z (inr d) = inr d

  -- ---- the end: what holds of memory in which no node is left

  pub record Ended : Type 0 where
    pub tree : Tree m
    pub bare : (s : Hook) → Valid m s → to m s ≡ 0 → Bare s
    pub told : (n : ℕ) → Used m n → (r : List ℕ) × Up m (suc n) r × Told n r

  module _ (left : ℕ → Bool) (w : Walking m Bare Told [] left) where
    done : (s : Hook) → Known m left s → Done m Bare left s
    done s k = go (w.each s k)
      where
        go : Memᴰ s [] ⊎ Done m Bare left s → Done m Bare left s
        go (inl i) = absurd (Memᴰ.not-nil i)
        go (inr d) = d

    -- where a hook that is done leads
    leads : {s : Hook} {n : ℕ} → Done m Bare left s → to m s ≡ suc n → Fits m s n × Seen m left n
    leads (none e b) q = absurd (omega (arith, sym e ∙ q))
    leads {s} (some k e f x) q = let d : k ≡ _ = suc_inj (sym e ∙ q) in subst (λ (z : ℕ). Fits m s z × Seen m left z) d (f, x)

    pub ended : ((n : ℕ) → left n ≡ false) → Ended
    ended none_left = record {
      tree = record {
        goes = λ s v e. (leads (done s (known s v)) e).0;
        comes = λ n u. let f = w.from n (seen n u) in record { at = f.at; valid = known_valid m left f.at f.known; leads = f.leads };
        rooted = λ n u. let q = w.rows n (seen n u) in (q.0, q.1);
      };
      bare = λ s v e. empty (done s (known s v)) e;
      told = λ n u. w.rows n (seen n u);
    }
      where
        seen : (n : ℕ) → Used m n → Seen m left n
        seen n u = record { used = u; gone = none_left n }

        known : (s : Hook) → Valid m s → Known m left s
        known (child zero) v = tt
        known (child (suc n)) v = seen n v
        known (after n) v = seen n v

        empty : {s : Hook} → Done m Bare left s → to m s ≡ 0 → Bare s
        empty (none e b) q = b
        empty (some k e f x) q = absurd (omega (arith, sym e ∙ q))

    -- ---- in a tree every used node has been come to ..

    pub all_seen : Tree m → (n : ℕ) → Used m n → left n ≡ false
    all_seen t n u = (reach m t (λ k. Seen m left k)
        (λ k e. (leads (done (child 0) tt) e).1)
        (λ k n u x e. (leads (done (child (suc k)) x) e).1)
        (λ k n u x e. (leads (done (after k) x) e).1) n u).gone

  -- .. and a node that a hook leads to fits and is still left, so that none is come to twice

  pub fresh : (left : ℕ → Bool) (s : Hook) (ss : List Hook) → Walking m Bare Told (s ∷ ss) left → Tree m → {n : ℕ} → to m s ≡ suc n → Fits m s n × (left n ≡ true)
  fresh left s ss w t {n} e = (f, go (left n) refl)
    where
      v : Valid m s
      v = known_valid m left s (w.known s (Memᴰ.head refl))

      f : Fits m s n
      f = t.goes s v e

      go : (b : Bool) → left n ≡ b → left n ≡ true
      go true q = q
      go false q =
          let x = w.from n (record { used = f.used; gone = q }) in
          absurd (x.done (Memᴰ.head (one_source m t x.at s (known_valid m left x.at x.known) v x.leads e)))
