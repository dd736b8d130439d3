-- Where the walk down stands: only the next siblings along its way are before it, so that a stack of them is all that it keeps
use Rattle.std.specs.Prelude.{◌≡◌, refl, ◌⊎◌, List, [], ◌∷◌, ◌++◌, map, Bool, true, false, ℕ, zero, suc, ◌+◌, ◌≤◌, length}
use Rattle.std.proofs.Common.{sym, ap, subst, inl, inr, arith}
use Rattle.shape.specs.Shape.{Shape, Hook, child, after, Used, to, owner, floor, Up, top, down, On, here, above, Tree}
use Rattle.shape.specs.Rows.{on_trans, up_child}
use Rattle.shape.specs.Down.{Walking, start, pass, enter, swap}

-- a node of the way that has a next sibling, and the depth of its parent
pub data Stop : Type 0 where
  stop : (node depth : ℕ) → Stop

abbrev pub beside : Stop → Hook
beside (stop n d) = after n

module _ (m : Shape) where
  -- going up from the link through used nodes reads the row and meets these stops
  pub data Along : ℕ → List ℕ → List Stop → Type 0 where
    root : Along zero [] []
    last : {n c : ℕ} {r : List ℕ} {ks : List Stop} → Used m n → m.cell n ≡ c → m.next n ≡ 0 → Along (m.parent n) r ks → Along (suc n) (c ∷ r) ks
    more : {n c d : ℕ} {r : List ℕ} {ks : List Stop} → Used m n → m.cell n ≡ c → ¬ (m.next n ≡ 0) → length r ≡ d → Along (m.parent n) r ks
        → Along (suc n) (c ∷ r) (stop n d ∷ ks)

  pub along_up : {l : ℕ} {r : List ℕ} {ks : List Stop} → Along l r ks → Up m l r
  along_up root = top
  along_up (last u e z a) = down u e (along_up a)
  along_up (more u e z d a) = down u e (along_up a)

  -- one stop at the most for each cell
  pub along_few : {l : ℕ} {r : List ℕ} {ks : List Stop} → Along l r ks → length ks ≤ length r
  along_few root = omega arith
  along_few (last u e z a) = let h = along_few a in omega arith
  along_few (more u e z d a) = let h = along_few a in omega arith

  -- the way as it was when the last stop was met
  pub record Back (r : List ℕ) (n d : ℕ) (ks : List Stop) : Type 0 where
    pub row : List ℕ
    pub before : List ℕ
    pub is : before ++ m.cell n ∷ row ≡ r
    pub deep : length row ≡ d
    pub along : Along (m.parent n) row ks
    pub next : ¬ (m.next n ≡ 0)

  pub back : {l n d : ℕ} {r : List ℕ} {ks : List Stop} → Along l r (stop n d ∷ ks) → Back r n d ks
  back (last {c = c} u e z a) = let b = back a in record
      { row = b.row; before = c ∷ b.before; is = ap (λ (x : List ℕ). c ∷ x) b.is; deep = b.deep; along = b.along; next = b.next }
  back (more {r = r} u e z d a) = record { row = r; before = []; is = ap (λ (x : ℕ). x ∷ r) e; deep = d; along = a; next = z }

module _ (m : Shape) (Bare : Hook → Type 0) (Told : ℕ → List ℕ → Type 0) where
  -- The walk stands before the hook s, below the row r, with the stops ks to come back to
  pub record Standing (s : Hook) (r : List ℕ) (ks : List Stop) (left : ℕ → Bool) : Type 0 where
    pub walking : Walking m Bare Told (s ∷ map beside ks) left
    pub along : Along m (owner m s) r ks

  pub set_off : Standing (child 0) [] [] m.used
  set_off = record { walking = start m Bare Told; along = root }

  module _ (left : ℕ → Bool) (s : Hook) (r : List ℕ) (ks : List Stop) (x : Standing s r ks left) where
    module _ (n : ℕ) (e : to m s ≡ suc n) (l : left n ≡ true) (p : m.parent n ≡ owner m s) (c : floor m s ≤ m.cell n) (tell : Told n (m.cell n ∷ r))
        (left' : ℕ → Bool) (here : left' n ≡ false) (other : (y : ℕ) → ¬ (y ≡ n) → left' y ≡ left y) where
      entered : Walking m Bare Told (child (suc n) ∷ after n ∷ map beside ks) left'
      entered = enter m Bare Told left s (map beside ks) x.walking n e l p c r (along_up m x.along) tell left' here other

      used : Used m n
      used = x.walking.within n l

      way : Along m (m.parent n) r ks
      way = subst (λ (z : ℕ). Along m z r ks) (sym p) x.along

      -- down, with a sibling to come back to, and with none
      pub go_down : ¬ (m.next n ≡ 0) → Standing (child (suc n)) (m.cell n ∷ r) (stop n (length r) ∷ ks) left'
      go_down z = record { walking = entered; along = more used refl z refl way }

      pub go_last : m.next n ≡ 0 → Bare (after n) → Standing (child (suc n)) (m.cell n ∷ r) ks left'
      go_last z b = record {
        walking = pass m Bare Told left' (after n) (child (suc n) ∷ map beside ks) (swap m Bare Told left' (child (suc n)) (after n) (map beside ks) entered) z b;
        along = last used refl z way;
      }

      -- along, past a node with nothing below it
      pub go_along : m.first (suc n) ≡ 0 → Bare (child (suc n)) → Standing (after n) r ks left'
      go_along z b = record { walking = pass m Bare Told left' (child (suc n)) (after n ∷ map beside ks) entered z b; along = way }

    -- the end of a list of siblings: nothing is before the walk ..
    pub go_end : ks ≡ [] → to m s ≡ 0 → Bare s → Walking m Bare Told [] left
    go_end e z b = subst (λ (l : List Stop). Walking m Bare Told (map beside l) left) e (pass m Bare Told left s (map beside ks) x.walking z b)

  -- .. or the last stop
  pub go_back : (left : ℕ → Bool) (s : Hook) (r : List ℕ) (n d : ℕ) (ks : List Stop) → Standing s r (stop n d ∷ ks) left → to m s ≡ 0 → Bare s
      → (b : Back m r n d ks) × Standing (after n) b.row ks left
  go_back left s r n d ks x z b =
      let q = back m x.along in
      (q, record { walking = pass m Bare Told left s (after n ∷ map beside ks) x.walking z b; along = q.along })

-- ---- where every node is an end or has a child, and rows are bounded, every node lies on the way of an end

module _ (m : Shape) (t : Tree m) (most : ℕ) (short : (n : ℕ) (r : List ℕ) → Up m (suc n) r → length r ≤ most)
    (End : ℕ → Type 0) (ends : (n : ℕ) → Used m n → End n ⊎ ((k : ℕ) × (m.first (suc n) ≡ suc k))) where
  abbrev Found : ℕ → Type 0
  Found n = (k : ℕ) × End k × On m n (suc k)

  below : (f n : ℕ) (r : List ℕ) → Used m n → Up m (suc n) r → most ≤ f + length r → Found n
  below zero n r u x h = go (ends n u)
    where
      go : End n ⊎ ((k : ℕ) × (m.first (suc n) ≡ suc k)) → (k : ℕ) × End k × On m n (suc k)
      go (inl e) = (n, e, here)
      go (inr q) = let a = up_child t (suc n) x q.1 in absurd (omega (arith, short q.0 (m.cell q.0 ∷ r) a))
  below (suc f) n r u x h = go (λ k a b. below f k (m.cell k ∷ r) a b (omega arith)) (ends n u)
    where
      go : ((k : ℕ) → Used m k → Up m (suc k) (m.cell k ∷ r) → (j : ℕ) × End j × On m k (suc j)) → End n ⊎ ((k : ℕ) × (m.first (suc n) ≡ suc k))
          → (k : ℕ) × End k × On m n (suc k)
      go ih (inl e) = (n, e, here)
      go ih (inr q) =
          let g = t.goes (child (suc n)) u q.1 in
          let b = ih q.0 g.used (up_child t (suc n) x q.1) in
          (b.0, b.1, on_trans (above (subst (λ (z : ℕ). On m n z) (sym g.under) here)) b.2)

  pub reach_end : (n : ℕ) → Used m n → (k : ℕ) × End k × On m n (suc k)
  reach_end n u = let q = t.rooted n u in below most n q.0 u q.1 (omega arith)
