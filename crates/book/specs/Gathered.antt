-- Lists gathered number by number: what stands in them, and how long they are.
use Rattle.std.specs.Prelude.{◌≡◌, refl, ◌⊎◌, ◌↔◌}
use Rattle.std.proofs.Common.{sym, ap, ap₂, ◌∙◌, subst, inl, inr, arith}
use mathlib.Core.List.Memᴰ
use mathlib.Core.List.{List, [], ◌++◌, append_assoc, Memᴰ}
use Prim.Native.Nat.{ℕ, zero, suc, ◌+◌, ◌≤◌, ◌<◌}
use Rattle.std.proofs.Math.Decide.{ℕ_discrete}
use Rattle.layout.specs.Layout.{rule_numbers}
use Rattle.book.specs.Rules.{Rule, Held, nothing, rule, Rules, terms_of, each, terms}

module _ {A : Type 0} (f : ℕ → List A) where
  pub record Gathered (n k : ℕ) (x : A) : Type 0 where
    pub at : ℕ
    pub from : k ≤ at
    pub below : at < k + n
    pub among : Memᴰ x (f at)

  pub of_each : (n k : ℕ) {x : A} → Memᴰ x (each f n k) → Gathered n k x
  unfolding each
  of_each zero k i = absurd (Memᴰ.not-nil i)
  of_each (suc n) k {x} i = go (λ (j : Memᴰ x (each f n (suc k))). of_each n (suc k) j) (Memᴰ.append_cases (f k) i)
    where
      go : (Memᴰ x (each f n (suc k)) → Gathered n (suc k) x) → Memᴰ x (f k) ⊎ Memᴰ x (each f n (suc k)) → Gathered (suc n) k x
      go ih (inl j) = record { at = k; from = omega arith; below = omega arith; among = j }
      go ih (inr j) = let g = ih j in record { at = g.at; from = (let h = g.from in omega arith); below = (let h = g.below in omega arith); among = g.among }

  pub to_each : (n k : ℕ) {x : A} → Gathered n k x → Memᴰ x (each f n k)
  unfolding each
  to_each zero k g = absurd (let a = g.from in let b = g.below in omega arith)
  to_each (suc n) k {x} g = go (ℕ_discrete g.at k) (λ h. to_each n (suc k) h)
    where
      go : Dec (g.at ≡ k) → (Gathered n (suc k) x → Memᴰ x (each f n (suc k))) → Memᴰ x (each f (suc n) k)
      go (yes e) ih = Memᴰ.append_left (each f n (suc k)) (subst (λ j. Memᴰ x (f j)) e g.among)
      go (no e) ih = Memᴰ.append_right (f k)
          (ih (record { at = g.at; from = (let a = g.from in omega arith); below = (let b = g.below in omega arith); among = g.among }))

pub each_same : {A : Type 0} (f g : ℕ → List A) (n k : ℕ) → ((j : ℕ) → k ≤ j → j < k + n → f j ≡ g j) → each f n k ≡ each g n k
unfolding each
each_same f g zero k h = refl
each_same f g (suc n) k h = ap₂ ◌++◌ (h k (omega arith) (omega arith)) (each_same f g n (suc k) (λ j a b. h j (omega arith) (omega arith)))

pub each_split : {A : Type 0} (f : ℕ → List A) (a b k : ℕ) → each f (a + b) k ≡ each f a k ++ each f b (k + a)
unfolding each
each_split f zero b k =
    let e : zero + b ≡ b = omega arith in
    let g : k ≡ k + zero = omega arith in
    ap₂ (λ (n j : ℕ). each f n j) e g
each_split {A} f (suc a) b k =
    let e : suc a + b ≡ suc (a + b) = omega arith in
    let g : suc k + a ≡ k + suc a = omega arith in
    ap (λ (n : ℕ). each f n k) e
    ∙ ap (λ (z : List A). f k ++ z) (each_split f a b (suc k) ∙ ap (λ (j : ℕ). each f a (suc k) ++ each f b j) g)
    ∙ sym (append_assoc (f k) (each f a (suc k)) (each f b (k + suc a)))

-- nothing is gathered where f gives nothing
pub each_none : {A : Type 0} (f : ℕ → List A) (n k : ℕ) → ((j : ℕ) → k ≤ j → j < k + n → f j ≡ []) → each f n k ≡ []
unfolding each
each_none f zero k h = refl
each_none f (suc n) k h = ap₂ ◌++◌ (h k (omega arith) (omega arith)) (each_none f n (suc k) (λ j a b. h j (omega arith) (omega arith)))

-- nothing is no rule, and a number has one rule
pub rule_inj : {r s : Rule} → rule r ≡ rule s → r ≡ s
rule_inj e = cc

pub not_rule : {r : Rule} → ¬ (nothing ≡ rule r)
not_rule e = let z : ◌≡◌ {A = ℕ} 0 1 = cc in omega arith

-- the terms of some rules: exactly those of a rule that stands under a number
pub record Standing (rules : Rules) (t : List ℕ) : Type 0 where
  pub number : ℕ
  pub low : number < rule_numbers
  pub its : Rule
  pub is : rules number ≡ rule its
  pub term_is : its.term ≡ t

term_held : {t : List ℕ} (h : Held) → Memᴰ t (terms_of h) → (r : Rule) × (h ≡ rule r) × (r.term ≡ t)
term_held nothing i = absurd (Memᴰ.not-nil i)
term_held (rule r) i = (r, refl, sym (Memᴰ.eq_of_singleton i))

pub terms_standing : (rules : Rules) (t : List ℕ) → Memᴰ t (terms rules) ↔ Standing rules t
terms_standing rules t = (
  (λ i. let g = of_each (λ k. terms_of (rules k)) rule_numbers 0 i in
      let h = term_held (rules g.at) g.among in
      record { number = g.at; low = (let b = g.below in omega arith); its = h.0; is = h.1; term_is = h.2 }),
  (λ s. to_each (λ k. terms_of (rules k)) rule_numbers 0
      (record {
        at = s.number;
        from = omega arith;
        below = (let l = s.low in omega arith);
        among = subst (λ h. Memᴰ t (terms_of h))
            (sym s.is) (Memᴰ.head (sym s.term_is));
      })),
)
