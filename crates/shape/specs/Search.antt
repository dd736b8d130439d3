-- A search over the unfolded tree that keeps a state: it finds exactly the used nodes whose row is accepted
use Rattle.std.specs.Prelude.{◌≡◌, ◌⊎◌, Bool, true, false}
use Rattle.std.proofs.Math.Path.{refl}
use Rattle.std.proofs.Common.{sym, ap, ◌∙◌, subst, inl, inr, arith}
use mathlib.Core.List.Memᴰ
use mathlib.Core.List.{List, [], ◌∷◌, ◌++◌, append_assoc, reverse, reverse-cons, Memᴰ}
use Prim.Native.Nat.{ℕ, suc, ◌+◌}
use Rattle.shape.specs.Shape.{Shape, Up, Tree}
use Rattle.shape.specs.Trie.{Trie, tip, node, trie, rows, Bounded}
use Rattle.shape.specs.Unfolded.{holds}

abbrev pub keep : Bool → ℕ → List ℕ
keep true n = n ∷ []
keep false n = []

abbrev pub size : Trie → ℕ
size tip = 1
size (node n l r) = suc (size l + size r)

kept : (b : Bool) (n k : ℕ) → Memᴰ k (keep b n) → (k ≡ n) × (b ≡ true)
kept true n k i = go (Memᴰ.cases_cons i)
  where
    go : (k ≡ n) ⊎ Memᴰ k [] → (k ≡ n) × (true ≡ true)
    go (inl e) = (e, refl)
    go (inr j) = absurd (Memᴰ.not-nil j)
kept false n k i = absurd (Memᴰ.not-nil i)

keeps : (b : Bool) (n : ℕ) → b ≡ true → Memᴰ n (keep b n)
keeps true n e = Memᴰ.head refl
keeps false n e = let z : ◌≡◌ {A = ℕ} 0 1 = cc in absurd (omega arith)

-- the state goes on by a node's cell, and a node is found where its state is good
module _ {S : Type 0} (step : ℕ → S → S) (good : S → Bool) where
  abbrev pub run : S → List ℕ → S
  run s [] = s
  run s (c ∷ r) = run (step c s) r

  abbrev pub hits : Shape → S → Trie → List ℕ
  hits m s tip = []
  hits m s (node n l r) = keep (good (step (m.cell n) s)) n ++ (hits m (step (m.cell n) s) l ++ hits m s r)

  -- the state after a row, which is read backwards
  abbrev after_row : S → List ℕ → S
  after_row s [] = s
  after_row s (c ∷ r) = step c (after_row s r)

  run_append : (s : S) (p r : List ℕ) → run s (p ++ r) ≡ run (run s p) r
  run_append s [] r = refl
  run_append s (c ∷ p) r = run_append (step c s) p r

  after_run : (s : S) (r : List ℕ) → after_row s r ≡ run s (reverse r)
  after_run s [] = refl
  after_run s (c ∷ r) = ap (step c) (after_run s r) ∙ sym (ap (run s) (reverse-cons c r) ∙ run_append s (reverse r) (c ∷ []))

  -- the nodes of a list of rows that are accepted
  accepted : S → List (ℕ × List ℕ) → List ℕ
  accepted s [] = []
  accepted s (x ∷ xs) = keep (good (after_row s x.1)) x.0 ++ accepted s xs

  accepted_append : (s : S) (xs ys : List (ℕ × List ℕ)) → accepted s (xs ++ ys) ≡ accepted s xs ++ accepted s ys
  unfolding accepted
  accepted_append s [] ys = refl
  accepted_append s (x ∷ xs) ys = rw (accepted_append s xs ys) (sym (append_assoc (keep (good (after_row s x.1)) x.0) (accepted s xs) (accepted s ys)))

  hits_are : (m : Shape) (s : S) (p : List ℕ) (t : Trie) → hits m (after_row s p) t ≡ accepted s (rows m p t)
  unfolding accepted
  hits_are m s p tip = refl
  hits_are m s p (node n l r) = rw (accepted_append s (rows m (m.cell n ∷ p) l) (rows m p r), ← (hits_are m s (m.cell n ∷ p) l), ← (hits_are m s p r)) refl

  of_accepted : (s : S) (l : List (ℕ × List ℕ)) (n : ℕ) → Memᴰ n (accepted s l) → (r : List ℕ) × Memᴰ (n, r) l × (good (after_row s r) ≡ true)
  unfolding accepted
  of_accepted s [] n i = absurd (Memᴰ.not-nil i)
  of_accepted s (x ∷ xs) n i = go (λ (j : Memᴰ n (accepted s xs)). of_accepted s xs n j) (Memᴰ.append_cases (keep (good (after_row s x.1)) x.0) i)
    where
      go : (Memᴰ n (accepted s xs) → (r : List ℕ) × Memᴰ (n, r) xs × (good (after_row s r) ≡ true))
          → Memᴰ n (keep (good (after_row s x.1)) x.0) ⊎ Memᴰ n (accepted s xs) → (r : List ℕ) × Memᴰ (n, r) (x ∷ xs) × (good (after_row s r) ≡ true)
      go ih (inl j) = let q = kept (good (after_row s x.1)) x.0 n j in (x.1, Memᴰ.head (ap (λ (z : ℕ). (z, x.1)) q.0), q.1)
      go ih (inr j) = let q = ih j in (q.0, Memᴰ.tail q.1, q.2)

  to_accepted : (s : S) (l : List (ℕ × List ℕ)) (n : ℕ) (r : List ℕ) → Memᴰ (n, r) l → good (after_row s r) ≡ true → Memᴰ n (accepted s l)
  unfolding accepted
  to_accepted s [] n r x' h = elim x' [ ]
  to_accepted s (x ∷ xs) n r (Memᴰ.head e) h =
      Memᴰ.append_left (accepted s xs)
      (Memᴰ.cast (ap (λ (z : ℕ × List ℕ). z.0) e) (keeps (good (after_row s x.1)) x.0 (ap (λ (z : ℕ × List ℕ). good (after_row s z.1)) (sym e) ∙ h)))
  to_accepted s (x ∷ xs) n r (Memᴰ.tail i) h = Memᴰ.append_right (keep (good (after_row s x.1)) x.0) (to_accepted s xs n r i h)

  module _ (m : Shape) (t : Tree m) (b : Bounded m) (s : S) where
    abbrev pub found : List ℕ
    found = hits m s (trie m (m.first 0))

    -- what is found: the used nodes whose row, read forwards, leads to a good state
    pub found_good : (n : ℕ) → Memᴰ n found → (r : List ℕ) × Up m (suc n) r × (good (run s (reverse r)) ≡ true)
    found_good n i =
        let q = of_accepted s (rows m [] (trie m (m.first 0))) n (subst (λ (l : List ℕ). Memᴰ n l) (hits_are m s [] (trie m (m.first 0))) i) in
        (q.0, (holds m t b n q.0).0 q.1, ap good (sym (after_run s q.0)) ∙ q.2)

    pub good_found : (n : ℕ) (r : List ℕ) → Up m (suc n) r → good (run s (reverse r)) ≡ true → Memᴰ n found
    good_found n r up h =
        subst (λ (l : List ℕ). Memᴰ n l) (sym (hits_are m s [] (trie m (m.first 0))))
        (to_accepted s (rows m [] (trie m (m.first 0))) n r ((holds m t b n r).1 up) (ap good (after_run s r) ∙ h))
