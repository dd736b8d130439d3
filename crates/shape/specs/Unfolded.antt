-- The unfolded tree has exactly the used nodes, and no more than 33 levels
use Rattle.std.specs.Prelude.{◌≡◌, ◌⊎◌, ◌↔◌, length}
use Rattle.std.proofs.Math.Path.{refl, subst}
use Rattle.std.proofs.Common.{sym, ap, ◌∙◌, inl, inr}
use mathlib.Core.List.{List, [], ◌∷◌, ◌++◌, Memᴰ}
use Prim.Native.Nat.{ℕ, zero, suc, ◌+◌, ◌-◌, ◌*◌, ◌≤◌, ◌<◌}
use native.Mathlib.Omega.{arith}
use Rattle.shape.specs.Basics.{up_live}
use Rattle.shape.specs.Shape.{Shape, child, after, Used, Live, Up, top, down, Tree}
use Rattle.shape.specs.Trie.{tip, node, unfolded, FUEL, trie, rows, height, Bounded}
use Rattle.shape.specs.Order.{ith, ith_after, ith_is, index}
use Rattle.shape.specs.Rows.{up_same}

-- the link l is none, or that of a used node under the row p
abbrev pub Under : Shape → List ℕ → ℕ → Type 0
Under m p l = (n : ℕ) → l ≡ suc n → Used m n × Up m (m.parent n) p

module _ (m : Shape) (t : Tree m) where
  pub under_first : (l : ℕ) {p : List ℕ} → Up m l p → Under m p (m.first l)
  under_first l {p} x n e = let f = t.goes (child l) (up_live x) e in (f.used, subst (λ (z : ℕ). Up m z p) (sym f.under) x)

  pub under_next : (k : ℕ) {p : List ℕ} → Used m k → Up m (m.parent k) p → Under m p (m.next k)
  under_next k {p} u x n e = let f = t.goes (after k) u e in (f.used, subst (λ (z : ℕ). Up m z p) (sym f.under) x)

-- ---- the fuel is enough: a child is a level lower, a sibling has a greater cell

pub no_trie : (m : Shape) (f : ℕ) → unfolded m f zero ≡ tip
unfolding unfolded
no_trie m zero = refl
no_trie m (suc f) = refl

data Fuel (m : Shape) : ℕ → ℕ → Type 0 where
  none : {f : ℕ} → Fuel m f zero
  some : {f n : ℕ} → Fuel m f (m.first (suc n)) → Fuel m f (m.next n) → Fuel m (suc f) (suc n)

enough : {m : Shape} {f l : ℕ} → Fuel m f l → unfolded m (suc f) l ≡ unfolded m f l
unfolding unfolded
enough {m} {f} none = sym (no_trie m f)
enough {m} (some {n = n} a b) = rw (enough a, enough b)

one_more : (m : Shape) (f n : ℕ) → unfolded m (suc f) (suc n) ≡ node n (unfolded m f (m.first (suc n))) (unfolded m f (m.next n))
unfolding unfolded
one_more m f n = refl

fuel_big : 2228224 ≤ FUEL
unfolding FUEL
fuel_big = omega arith

module _ (m : Shape) (t : Tree m) (b : Bounded m) where
  fueled : (f l : ℕ) (p : List ℕ) → Under m p l → ((n : ℕ) → l ≡ suc n → (32 - length p) * 65536 + (65536 - m.cell n) ≤ f) → Fuel m f l
  fueled zero zero p x h = none
  fueled zero (suc n) p x h = absurd (omega (arith, b.small n (x n refl).0, h n refl))
  fueled (suc f) zero p x h = none
  fueled (suc f) (suc n) p x h =
      let q = x n refl in
      let up : Up m (suc n) (m.cell n ∷ p) = down q.0 refl q.1 in
      some
      (fueled f (m.first (suc n)) (m.cell n ∷ p) (under_first m t (suc n) up) (λ k e. deeper k (under_first m t (suc n) up k e) (h n refl) (b.small n q.0)))
      (fueled f (m.next n) p (under_next m t n q.0 q.1) (λ k e. let g = t.goes (after n) q.0 e in further k g.above (b.small k g.used) (h n refl)))
    where
      deeper : (k : ℕ) → Used m k × Up m (m.parent k) (m.cell n ∷ p) → (32 - length p) * 65536 + (65536 - m.cell n) ≤ suc f → m.cell n < 65536
          → (32 - suc (length p)) * 65536 + (65536 - m.cell k) ≤ f
      deeper k g a c = let s = b.shallow k (m.cell k ∷ m.cell n ∷ p) (down g.0 refl g.1) in omega arith

      further : (k : ℕ) → suc (m.cell n) ≤ m.cell k → m.cell k < 65536 → (32 - length p) * 65536 + (65536 - m.cell n) ≤ suc f
          → (32 - length p) * 65536 + (65536 - m.cell k) ≤ f
      further k a c d = omega arith

  pub opens : (n : ℕ) → Used m n → trie m (suc n) ≡ node n (trie m (m.first (suc n))) (trie m (m.next n))
  opens n u = go (t.rooted n u).1
    where
      go : {r : List ℕ} → Up m (suc n) r → trie m (suc n) ≡ node n (trie m (m.first (suc n))) (trie m (m.next n))
      go (down {r = p} v e x) =
          sym (enough (fueled FUEL (suc n) p (λ k q. let d : n ≡ k = omega arith in subst (λ (z : ℕ). Used m z × Up m (m.parent z) p) d (v, x))
          (λ k q. omega (arith, fuel_big))))
          ∙ one_more m FUEL n

  -- a list of one point a level is enough for a search
  low : (f l : ℕ) (p : List ℕ) → length p ≤ 33 → Under m p l → length p + height (unfolded m f l) ≤ 33
  unfolding unfolded
  low zero l p h x = omega arith
  low (suc f) zero p h x = omega arith
  low (suc f) (suc n) p h x =
      let q = x n refl in
      let up : Up m (suc n) (m.cell n ∷ p) = down q.0 refl q.1 in
      let a = low f (m.first (suc n)) (m.cell n ∷ p) (b.shallow n (m.cell n ∷ p) up) (under_first m t (suc n) up) in
      let c = low f (m.next n) p h (under_next m t n q.0 q.1) in
      omega arith

  pub height_root : height (trie m (m.first 0)) ≤ 33
  height_root = let q = low FUEL (m.first 0) [] (omega arith) (under_first m t 0 top) in omega arith

-- ---- every used node is reached from the root by first child and next sibling

module _ (m : Shape) (t : Tree m) (P : ℕ → Type 0)
    (root : (n : ℕ) → m.first 0 ≡ suc n → P n)
    (below : (k n : ℕ) → Used m k → P k → m.first (suc k) ≡ suc n → P n)
    (beside : (k n : ℕ) → Used m k → P k → m.next k ≡ suc n → P n) where
  children : (p : ℕ) → Live m p → ((n : ℕ) → m.first p ≡ suc n → P n) → (i n : ℕ) → ith m p i ≡ suc n → P n
  children p l b zero n e = b n e
  children p l b (suc i) n e =
      let q = ith_after m p i e in
      beside q.0 n (ith_is m t p i l q.1).0 (children p l b i q.0 q.1) q.2

  under : {l : ℕ} {r : List ℕ} → Up m l r → (n : ℕ) → Used m n → m.parent n ≡ l → P n
  under top n u e = let x = index m t n u in children 0 tt root x.0 n (ap (λ (z : ℕ). ith m z x.0) (sym e) ∙ x.1)
  under (down {n = k} v c y) n u e =
      let x = index m t n u in
      let pk = under y k v refl in
      children (suc k) v (λ a h. below k a v pk h) x.0 n (ap (λ (z : ℕ). ith m z x.0) (sym e) ∙ x.1)

  pub reach : (n : ℕ) → Used m n → P n
  reach n u = go (t.rooted n u).1
    where
      go : {r : List ℕ} → Up m (suc n) r → P n
      go (down v c y) = under y n v refl

-- ---- what the unfolded tree holds are the used nodes with their rows ..

module _ (m : Shape) (t : Tree m) where
  sound : (f l : ℕ) (p : List ℕ) → Under m p l → {x : ℕ × List ℕ} → Memᴰ x (rows m p (unfolded m f l)) → Up m (suc x.0) x.1
  unfolding unfolded
  sound zero l p h i = absurd (mathlib.Core.List.Memᴰ.not-nil i)
  sound (suc f) zero p h i = absurd (mathlib.Core.List.Memᴰ.not-nil i)
  sound (suc f) (suc n) p h {x} i = go (λ l p h i. sound f l p h i) (mathlib.Core.List.Memᴰ.cases_cons i)
    where
      q : Used m n × Up m (m.parent n) p
      q = h n refl

      up : Up m (suc n) (m.cell n ∷ p)
      up = down q.0 refl q.1

      l₁ : List (ℕ × List ℕ)
      l₁ = rows m (m.cell n ∷ p) (unfolded m f (m.first (suc n)))

      l₂ : List (ℕ × List ℕ)
      l₂ = rows m p (unfolded m f (m.next n))

      IH : Type 0
      IH = (l : ℕ) (p : List ℕ) → Under m p l → Memᴰ x (rows m p (unfolded m f l)) → Up m (suc x.0) x.1

      two : IH → Memᴰ x l₁ ⊎ Memᴰ x l₂ → Up m (suc x.0) x.1
      two ih (inl a) = ih (m.first (suc n)) (m.cell n ∷ p) (under_first m t (suc n) up) a
      two ih (inr a) = ih (m.next n) p (under_next m t n q.0 q.1) a

      go : IH → (x ≡ (n, m.cell n ∷ p)) ⊎ Memᴰ x (l₁ ++ l₂) → Up m (suc x.0) x.1
      go ih (inl e) = subst (λ (z : ℕ × List ℕ). Up m (suc z.0) z.1) (sym e) up
      go ih (inr j) = two ih (mathlib.Core.List.Memᴰ.append_cases l₁ j)

  -- .. each of them ..
  module _ (b : Bounded m) where
    all_rows : List (ℕ × List ℕ)
    all_rows = rows m [] (trie m (m.first 0))

    -- the part of the tree at n is part of the whole
    Part : ℕ → Type 0
    Part n = (p : List ℕ) → Up m (m.parent n) p → (x : ℕ × List ℕ) → Memᴰ x (rows m p (trie m (suc n))) → Memᴰ x all_rows

    at_root : (n : ℕ) → m.first 0 ≡ suc n → Part n
    unfolding Part all_rows
    at_root n e p up x i =
        let q : p ≡ [] = up_same up (under_first m t 0 top n e).1 in
        subst (λ (l : ℕ). Memᴰ x (rows m [] (trie m l))) (sym e) (subst (λ (z : List ℕ). Memᴰ x (rows m z (trie m (suc n)))) q i)

    opened : (n : ℕ) → Used m n → (p : List ℕ)
        → rows m p (trie m (suc n)) ≡ (n, m.cell n ∷ p) ∷ (rows m (m.cell n ∷ p) (trie m (m.first (suc n))) ++ rows m p (trie m (m.next n)))
    opened n u p = ap (rows m p) (opens m t b n u)

    at_child : (k n : ℕ) → Used m k → Part k → m.first (suc k) ≡ suc n → Part n
    unfolding Part
    at_child k n u pk e p up x i = go (subst (λ (z : ℕ). Up m z p) (t.goes (child (suc k)) u e).under up) i
      where
        go : {p : List ℕ} → Up m (suc k) p → Memᴰ x (rows m p (trie m (suc n))) → Memᴰ x all_rows
        go (down {c = c} {r = s} v d y) i =
            let j : Memᴰ x (rows m (m.cell k ∷ s) (trie m (m.first (suc k)))) =
            subst (λ (l : ℕ). Memᴰ x (rows m (m.cell k ∷ s) (trie m l))) (sym e) (subst (λ (z : ℕ). Memᴰ x (rows m (z ∷ s) (trie m (suc n)))) (sym d) i) in
            pk s y x (subst (λ (l : List (ℕ × List ℕ)). Memᴰ x l) (sym (opened k u s)) (mathlib.Core.List.Memᴰ.tail (mathlib.Core.List.Memᴰ.append_left (rows m s (trie m (m.next k))) j)))

    at_next : (k n : ℕ) → Used m k → Part k → m.next k ≡ suc n → Part n
    unfolding Part
    at_next k n u pk e p up x i =
        let j : Memᴰ x (rows m p (trie m (m.next k))) = subst (λ (l : ℕ). Memᴰ x (rows m p (trie m l))) (sym e) i in
        pk p (subst (λ (z : ℕ). Up m z p) (t.goes (after k) u e).under up) x
        (subst (λ (l : List (ℕ × List ℕ)). Memᴰ x l) (sym (opened k u p))
        (mathlib.Core.List.Memᴰ.tail (mathlib.Core.List.Memᴰ.append_right (rows m (m.cell k ∷ p) (trie m (m.first (suc k)))) j)))

    complete : (n : ℕ) (r : List ℕ) → Up m (suc n) r → Memᴰ (n, r) (rows m [] (trie m (m.first 0)))
    unfolding Part all_rows
    complete n r up = go up
      where
        go : {r : List ℕ} → Up m (suc n) r → Memᴰ (n, r) all_rows
        go (down {c = c} {r = s} u d y) =
            reach m t Part at_root at_child at_next n u s y (n, c ∷ s)
            (subst (λ (l : List (ℕ × List ℕ)). Memᴰ (n, c ∷ s) l) (sym (opened n u s)) (mathlib.Core.List.Memᴰ.head (ap (λ (z : ℕ). (n, z ∷ s)) (sym d))))

    pub holds : (n : ℕ) (r : List ℕ) → Memᴰ (n, r) (rows m [] (trie m (m.first 0))) ↔ Up m (suc n) r
    holds n r = ((λ i. sound FUEL (m.first 0) [] (under_first m t 0 top) i), complete n r)
