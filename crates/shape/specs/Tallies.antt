-- Laws of tallies: as many pass a narrower test only where all that pass the wider one do; the set bits of a map are its marks
use Rattle.std.specs.Prelude.{◌≡◌, ◌⊎◌, Bool, eqb, get_or, set, replicate}
use Rattle.std.proofs.Math.Path.{refl, ap}
use Rattle.std.proofs.Common.{sym, ◌∙◌, inl, inr, ext_get_or, get_or-set_same, get_or-set_other}
use mathlib.Core.List.Memᴰ
use mathlib.Core.List.{List, [], ◌∷◌, Memᴰ}
use Rattle.std.proofs.Math.Bool.{true, false}
use Prim.Native.Nat.{ℕ, zero, suc, ◌+◌, ◌-◌, ◌*◌, ◌/◌, ◌%◌, ◌^◌, ◌≤◌, ◌<◌}
use native.Mathlib.Omega.{arith}
use Rattle.std.proofs.Math.Decide.{ℕ_discrete}
use Rattle.std.proofs.Math.Nat.{zero-div}
use Rattle.std.proofs.Math.ListN.{length}
use Rattle.deciding.specs.Deciding.{true_not_false}
use Rattle.std.proofs.lemmas.List.Sums.{sum_by-cons}
use Rattle.bits.specs.Packed.{bits, sum}
use Rattle.bits.specs.Laws.{length_bits, bit_low, get_bit}
use Rattle.term.specs.Beginnings.{put_if, Distinct}
use Rattle.term.specs.Distinct.{put_member, put_keeps, put_adds, put_distinct}
use Rattle.shape.specs.Tally.{bit, tally, marked}

-- ---- the numbers that pass, as a list

abbrev pub listed : (ℕ → Bool) → ℕ → List ℕ
listed u zero = []
listed u (suc k) = put_if (u k) k (listed u k)

module _ (u : ℕ → Bool) where
  pub length_listed : (n : ℕ) → length (listed u n) ≡ tally u n
  unfolding tally
  length_listed zero = refl
  length_listed (suc n) = puts (u n) ∙ ap (λ (x : ℕ). bit (u n) + x) (length_listed n)
    where
      puts : (b : Bool) → length (put_if b n (listed u n)) ≡ bit b + length (listed u n)
      puts true = omega arith
      puts false = omega arith

  pub of_listed : (n : ℕ) {x : ℕ} → Memᴰ x (listed u n) → (u x ≡ true) × (x < n)
  of_listed zero i = absurd (Memᴰ.not-nil i)
  of_listed (suc n) {x} i = go (λ (j : Memᴰ x (listed u n)). of_listed n j) (put_member (u n) n (listed u n) i)
    where
      go : (Memᴰ x (listed u n) → (u x ≡ true) × (x < n)) → ((u n ≡ true) × (x ≡ n)) ⊎ Memᴰ x (listed u n) → (u x ≡ true) × (x < suc n)
      go ih (inl q) = (ap u q.1 ∙ q.0, let e = q.1 in omega arith)
      go ih (inr j) = let q = ih j in (q.0, omega arith)

  pub to_listed : (n x : ℕ) → u x ≡ true → x < n → Memᴰ x (listed u n)
  to_listed zero x e h = absurd (omega arith)
  to_listed (suc n) x e h = go (λ (l : x < n). to_listed n x e l) (ℕ_discrete x n)
    where
      go : (x < n → Memᴰ x (listed u n)) → Dec (x ≡ n) → Memᴰ x (listed u (suc n))
      go ih (yes q) = Memᴰ.cast q (put_adds (u n) n (listed u n) (ap u (sym q) ∙ e))
      go ih (no q) = put_keeps (u n) n (listed u n) (ih (omega arith))

  pub listed_distinct : (n : ℕ) → Distinct (listed u n)
  listed_distinct zero = tt
  listed_distinct (suc n) = put_distinct (u n) n (listed u n) (λ b i. let q = of_listed n i in omega arith) (listed_distinct n)

-- ---- two tests

pub tally_same : (u v : ℕ → Bool) (k : ℕ) → ((y : ℕ) → y < k → v y ≡ u y) → tally v k ≡ tally u k
unfolding tally
tally_same u v zero h = refl
tally_same u v (suc k) h = rw (h k (omega arith), tally_same u v k (λ y l. h y (omega arith)))

-- one number more passes
pub tally_more : (u v : ℕ → Bool) (n k : ℕ) → n < k → u n ≡ false → v n ≡ true → ((y : ℕ) → ¬ (y ≡ n) → v y ≡ u y) → tally v k ≡ suc (tally u k)
unfolding tally
tally_more u v n zero l f t h = absurd (omega arith)
tally_more u v n (suc k) l f t h = go (ℕ_discrete n k) (λ q. tally_more u v n k q f t h)
  where
    go : Dec (n ≡ k) → (n < k → tally v k ≡ suc (tally u k)) → tally v (suc k) ≡ suc (tally u (suc k))
    go (yes e) ih =
        let a : bit (v k) ≡ 1 = ap bit (ap v (sym e) ∙ t) in
        let b : bit (u k) ≡ 0 = ap bit (ap u (sym e) ∙ f) in
        let c = tally_same u v k (λ y q. h y (λ d. omega arith)) in omega arith
    go (no e) ih =
        let a : bit (v k) ≡ bit (u k) = ap bit (h k (λ d. e (sym d))) in
        let c = ih (omega arith) in omega arith

pub tally_all : (u : ℕ → Bool) (k : ℕ) → ((y : ℕ) → y < k → u y ≡ true) → tally u k ≡ k
unfolding tally
tally_all u zero h = refl
tally_all u (suc k) h = let a : bit (u k) ≡ 1 = ap bit (h k (omega arith)) in let b = tally_all u k (λ y l. h y (omega arith)) in omega arith

pub tally_le : (u : ℕ → Bool) (k : ℕ) → tally u k ≤ k
unfolding tally
tally_le u zero = omega arith
tally_le u (suc k) = let a = tally_le u k in let b = low (u k) in omega arith
  where
    low : (b : Bool) → bit b ≤ 1
    low true = omega arith
    low false = omega arith

-- what passes v passes u: there are as many exactly where all that pass u pass v
pub bit_le : (u v : Bool) → (v ≡ true → u ≡ true) → bit v ≤ bit u
bit_le true true h = omega arith
bit_le true false h = omega arith
bit_le false true h = absurd (true_not_false (h refl) refl)
bit_le false false h = omega arith

bit_same : (u v : Bool) → bit v ≡ bit u → u ≡ true → v ≡ true
bit_same true true e h = refl
bit_same true false e h = absurd (omega arith)
bit_same false v e h = absurd (true_not_false h refl)

tally_sub : (u v : ℕ → Bool) (k : ℕ) → ((n : ℕ) → n < k → v n ≡ true → u n ≡ true) → tally v k ≤ tally u k
unfolding tally
tally_sub u v zero h = omega arith
tally_sub u v (suc k) h = let a = tally_sub u v k (λ n l. h n (omega arith)) in let b = bit_le (u k) (v k) (h k (omega arith)) in omega arith

pub as_many_all : (u v : ℕ → Bool) (k : ℕ) → ((n : ℕ) → n < k → v n ≡ true → u n ≡ true) → tally v k ≡ tally u k → (n : ℕ) → n < k → u n ≡ true → v n ≡ true
unfolding tally
as_many_all u v zero h e n l = absurd (omega arith)
as_many_all u v (suc k) h e n l =
    let a = tally_sub u v k (λ n l. h n (omega arith)) in
    let b = bit_le (u k) (v k) (h k (omega arith)) in
    let same : tally v k ≡ tally u k = omega arith in
    let last : bit (v k) ≡ bit (u k) = omega arith in
    go (ℕ_discrete n k) (λ q. as_many_all u v k (λ n l. h n (omega arith)) same n q) last
  where
    go : Dec (n ≡ k) → (n < k → u n ≡ true → v n ≡ true) → bit (v k) ≡ bit (u k) → u n ≡ true → v n ≡ true
    go (yes q) ih s x = ap v q ∙ bit_same (u k) (v k) s (ap u (sym q) ∙ x)
    go (no q) ih s x = ih (omega arith) x

-- ---- the bits of a map

module _ (map map' : List ℕ) (n v : ℕ) (h : n < 64 * length map) (e : bits map' ≡ set (bits map) n v) where
  pub mark_here : marked map' n ≡ eqb v 1
  mark_here = ap (λ (l : List ℕ). eqb (get_or l n 0) 1) e ∙ ap (λ (x : ℕ). eqb x 1) (get_or-set_same (bits map) n v 0 (omega (arith, length_bits map)))

  pub mark_other : (y : ℕ) → ¬ (y ≡ n) → marked map' y ≡ marked map y
  mark_other y d = ap (λ (l : List ℕ). eqb (get_or l y 0) 1) e ∙ ap (λ (x : ℕ). eqb x 1) (get_or-set_other (bits map) n y v 0 d)

tally_shift : (u : ℕ → Bool) (k : ℕ) → tally u (suc k) ≡ bit (u 0) + tally (λ n. u (suc n)) k
unfolding tally
tally_shift u zero = refl
tally_shift u (suc k) = let e = tally_shift u k in omega arith

low_bit : (x : ℕ) → x < 2 → bit (eqb x 1) ≡ x
low_bit zero h = refl
low_bit (suc zero) h = refl
low_bit (suc (suc x)) h = absurd (omega arith)

-- two maps with the same marks have the same bits
pub same_bits : (a b : List ℕ) → length a ≡ length b → ((n : ℕ) → marked a n ≡ marked b n) → bits a ≡ bits b
same_bits a b l e =
    ext_get_or 0 (bits a) (bits b) (omega (arith, length_bits a, length_bits b))
    (λ k h. sym (low_bit (get_or (bits a) k 0) (bit_low a k)) ∙ ap bit (e k) ∙ low_bit (get_or (bits b) k 0) (bit_low b k))

sum_tally : (l : List ℕ) → ((n : ℕ) → get_or l n 0 < 2) → sum l ≡ tally (λ n. eqb (get_or l n 0) 1) (length l)
unfolding tally
sum_tally [] h = refl
sum_tally (x ∷ l) h =
    sum_by-cons (λ (z : ℕ). z) x l ∙ ap (λ (z : ℕ). x + z) (sum_tally l (λ n. h (suc n))) ∙ ap (λ (z : ℕ). z + tally (λ n. eqb (get_or l n 0) 1) (length l)) (sym (low_bit x (h 0)))
    ∙ sym (tally_shift (λ n. eqb (get_or (x ∷ l) n 0) 1) (length l))

-- the count of the set bits of a map
pub map_tally : (map : List ℕ) → sum (bits map) ≡ tally (marked map) (64 * length map)
map_tally map = sum_tally (bits map) (bit_low map) ∙ ap (tally (marked map)) (length_bits map)

-- a map of zeros has no mark
pub no_mark : (n k : ℕ) → marked (replicate n 0) k ≡ false
no_mark n k = ap (λ (x : ℕ). eqb x 1)
    (get_bit (replicate n 0) k ∙ ap (λ (w : ℕ). w / 2 ^ (63 - k % 64) % 2) (zero_word n (k / 64)) ∙ ap (λ (x : ℕ). x % 2) (zero-div (2 ^ (63 - k % 64))))
  where
    zero_word : (n i : ℕ) → ◌≡◌ {A = ℕ} (get_or (replicate n 0) i 0) 0
    zero_word zero i = refl
    zero_word (suc n) zero = refl
    zero_word (suc n) (suc i) = zero_word n i
