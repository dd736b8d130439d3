-- A record by words: a field of a word is a quotient, and each word of the way has the last four cells, the latest lowest.
use mathlib.Core.Path.{◌≡◌, refl, sym, ap, ◌∙◌}
use mathlib.Core.List.Memᴰ
use mathlib.Core.List.{List}
use mathlib.Core.Bool.{Bool, true}
use Prim.Native.Nat.{ℕ, zero, suc, ◌+◌, ◌-◌, ◌*◌, ◌/◌, ◌%◌, ◌^◌, ◌≤◌, ◌<◌}
use native.Mathlib.Nat.{zero-div, zero-mul}
use native.Mathlib.Omega.{arith}
use native.Mathlib.Decide.{ℕ_discrete, dec_lt}
use lib.Bits.{bit_or, or_add_and, and_le_l, and_le_r}
use lib.ListN.{length, get_or, get_or-eq_default}
use Rattle.deciding.specs.Deciding.{true_not_false}
use Rattle.layout.specs.Layout.{term_words}
use Rattle.bits.specs.Packed.{fields}
use Rattle.bits.specs.Laws.{get_unpack, field_at}
use Rattle.recorded.proofs.Plainly.{plain_term}
use Rattle.recorded.specs.Way.{blanks, numbered, word_of, Kept, none, more, Low}
use Rattle.recorded.specs.WayCells.{blanks_low, kept_word, numbered_low}
use Rattle.recorded.specs.Promises.{Plain, PlainOf, TermDecided}

-- ---- the words behind the second

left_zero : (a b : ℕ) → bit_or a b ≡ 0 → a ≡ 0
left_zero a b e = omega (arith, or_add_and a b, and_le_r a b)

right_zero : (a b : ℕ) → bit_or a b ≡ 0 → b ≡ 0
right_zero a b e = omega (arith, or_add_and a b, and_le_l a b)

pub all_six : (ws : List ℕ) → length ws ≡ term_words
    → bit_or (bit_or (bit_or (bit_or (bit_or (get_or ws 2 0) (get_or ws 3 0)) (get_or ws 4 0)) (get_or ws 5 0)) (get_or ws 6 0)) (get_or ws 7 0) ≡ 0
    → (j : ℕ) → 2 ≤ j → get_or ws j 0 ≡ 0
all_six ws h e = one
  where
    e6 : bit_or (bit_or (bit_or (bit_or (get_or ws 2 0) (get_or ws 3 0)) (get_or ws 4 0)) (get_or ws 5 0)) (get_or ws 6 0) ≡ 0
    e6 = left_zero (bit_or (bit_or (bit_or (bit_or (get_or ws 2 0) (get_or ws 3 0)) (get_or ws 4 0)) (get_or ws 5 0)) (get_or ws 6 0)) (get_or ws 7 0) e

    e5 : bit_or (bit_or (bit_or (get_or ws 2 0) (get_or ws 3 0)) (get_or ws 4 0)) (get_or ws 5 0) ≡ 0
    e5 = left_zero (bit_or (bit_or (bit_or (get_or ws 2 0) (get_or ws 3 0)) (get_or ws 4 0)) (get_or ws 5 0)) (get_or ws 6 0) e6

    e4 : bit_or (bit_or (get_or ws 2 0) (get_or ws 3 0)) (get_or ws 4 0) ≡ 0
    e4 = left_zero (bit_or (bit_or (get_or ws 2 0) (get_or ws 3 0)) (get_or ws 4 0)) (get_or ws 5 0) e5

    e3 : bit_or (get_or ws 2 0) (get_or ws 3 0) ≡ 0
    e3 = left_zero (bit_or (get_or ws 2 0) (get_or ws 3 0)) (get_or ws 4 0) e4

    one : (j : ℕ) → 2 ≤ j → get_or ws j 0 ≡ 0
    one zero l = absurd (omega arith)
    one (suc zero) l = absurd (omega arith)
    one (suc (suc zero)) l = left_zero (get_or ws 2 0) (get_or ws 3 0) e3
    one (suc (suc (suc zero))) l = right_zero (get_or ws 2 0) (get_or ws 3 0) e3
    one (suc (suc (suc (suc zero)))) l = right_zero (bit_or (get_or ws 2 0) (get_or ws 3 0)) (get_or ws 4 0) e4
    one (suc (suc (suc (suc (suc zero))))) l = right_zero (bit_or (bit_or (get_or ws 2 0) (get_or ws 3 0)) (get_or ws 4 0)) (get_or ws 5 0) e5
    one (suc (suc (suc (suc (suc (suc zero)))))) l = right_zero (bit_or (bit_or (bit_or (get_or ws 2 0) (get_or ws 3 0)) (get_or ws 4 0)) (get_or ws 5 0)) (get_or ws 6 0) e6
    one (suc (suc (suc (suc (suc (suc (suc zero))))))) l = right_zero
        (bit_or (bit_or (bit_or (bit_or (get_or ws 2 0) (get_or ws 3 0)) (get_or ws 4 0)) (get_or ws 5 0)) (get_or ws 6 0)) (get_or ws 7 0) e
    one (suc (suc (suc (suc (suc (suc (suc (suc k)))))))) l = get_or-eq_default ws 0 (omega arith)

-- ---- a word that is moved up by s fields: the field with t fields below it

moved : (w s t : ℕ) → s ≤ t → t < 4 → (w * 2 ^ (s * 16)) % 2 ^ 64 / 2 ^ (t * 16) % 2 ^ 16 ≡ w / 2 ^ ((t - s) * 16) % 2 ^ 16
moved w zero zero h l = omega arith
moved w zero (suc zero) h l = omega arith
moved w zero (suc (suc zero)) h l = omega arith
moved w zero (suc (suc (suc zero))) h l = omega arith
moved w (suc zero) (suc zero) h l = omega arith
moved w (suc zero) (suc (suc zero)) h l = omega arith
moved w (suc zero) (suc (suc (suc zero))) h l = omega arith
moved w (suc (suc zero)) (suc (suc zero)) h l = omega arith
moved w (suc (suc zero)) (suc (suc (suc zero))) h l = omega arith
moved w (suc (suc (suc zero))) (suc (suc (suc zero))) h l = omega arith
moved w (suc s) zero h l = absurd (omega arith)
moved w (suc (suc s)) (suc zero) h l = absurd (omega arith)
moved w (suc (suc (suc s))) (suc (suc zero)) h l = absurd (omega arith)
moved w (suc (suc (suc (suc s)))) (suc (suc (suc zero))) h l = absurd (omega arith)
moved w s (suc (suc (suc (suc t)))) h l = absurd (omega arith)

emptied : (w s t : ℕ) → t < s → s < 4 → (w * 2 ^ (s * 16)) % 2 ^ 64 / 2 ^ (t * 16) % 2 ^ 16 ≡ 0
emptied w zero t h l = absurd (omega arith)
emptied w (suc zero) zero h l = omega arith
emptied w (suc zero) (suc t) h l = absurd (omega arith)
emptied w (suc (suc zero)) zero h l = omega arith
emptied w (suc (suc zero)) (suc zero) h l = omega arith
emptied w (suc (suc zero)) (suc (suc t)) h l = absurd (omega arith)
emptied w (suc (suc (suc zero))) zero h l = omega arith
emptied w (suc (suc (suc zero))) (suc zero) h l = omega arith
emptied w (suc (suc (suc zero))) (suc (suc zero)) h l = omega arith
emptied w (suc (suc (suc zero))) (suc (suc (suc t))) h l = absurd (omega arith)
emptied w (suc (suc (suc (suc s)))) t h l = absurd (omega arith)

-- ---- the words of the way

one_up : (u v t : ℕ) → v < 65536 → suc t < 4 → (u % 281474976710656 * 65536 + v) / 2 ^ (suc t * 16) % 2 ^ 16 ≡ u / 2 ^ (t * 16) % 2 ^ 16
one_up u v zero h l = omega arith
one_up u v (suc zero) h l = omega arith
one_up u v (suc (suc zero)) h l = omega arith
one_up u v (suc (suc (suc t))) h l = absurd (omega arith)

-- the cell with t cells behind it is the last one of a shorter beginning
behind : {way ks row : List ℕ} → Kept way ks row → Low row → length row ≤ 32 → (d t : ℕ) → d ≤ length row → t < 4 → t < d
    → get_or way d 0 / 2 ^ (t * 16) % 2 ^ 16 ≡ get_or way (d - t) 0 % 65536
behind (none a b) h s d t l m n = absurd (omega arith)
behind {way} {ks} (more {c} {r} a b w k) h s d t l m n = go (behind k (λ e i. h e (Memᴰ.tail i)) (omega arith)) (ℕ_discrete d (suc (length r)))
  where
    Shorter : Type 0
    Shorter = (d t : ℕ) → d ≤ length r → t < 4 → t < d → get_or way d 0 / 2 ^ (t * 16) % 2 ^ 16 ≡ get_or way (d - t) 0 % 65536

    low : numbered c (blanks r) < 65536
    low = let few = blanks_low r (λ e i. h e (Memᴰ.tail i)) in numbered_low c (blanks r) (h c (Memᴰ.head refl)) (omega arith)

    at : Shorter → (t : ℕ) → t < 4 → t < suc (length r) → get_or way (suc (length r)) 0 / 2 ^ (t * 16) % 2 ^ 16 ≡ get_or way (suc (length r) - t) 0 % 65536
    at ih zero m n =
        let q : get_or way (suc (length r)) 0 / 2 ^ (0 * 16) ≡ get_or way (suc (length r)) 0 = omega arith in
        let i : suc (length r) ≡ suc (length r) - 0 = omega arith in
        ap (λ (z : ℕ). z % 2 ^ 16) q ∙ ap (λ (z : ℕ). get_or way z 0 % 65536) i
    at ih (suc t) m n =
        let i : length r - t ≡ suc (length r) - suc t = omega arith in
        ap (λ (z : ℕ). z / 2 ^ (suc t * 16) % 2 ^ 16) a ∙ one_up (word_of r) (numbered c (blanks r)) t low m
        ∙ ap (λ (z : ℕ). z / 2 ^ (t * 16) % 2 ^ 16) (sym (kept_word k)) ∙ ih (length r) t (omega arith) (omega arith) (omega arith)
        ∙ ap (λ (z : ℕ). get_or way z 0 % 65536) i

    go : Shorter → Dec (d ≡ suc (length r)) → get_or way d 0 / 2 ^ (t * 16) % 2 ^ 16 ≡ get_or way (d - t) 0 % 65536
    go ih (yes q) = ap (λ (z : ℕ). get_or way z 0 / 2 ^ (t * 16) % 2 ^ 16) q ∙ at ih t m (omega arith) ∙ ap (λ (z : ℕ). get_or way (z - t) 0 % 65536) (sym q)
    go ih (no q) = ih d t (omega arith) m n

kept_first : {way ks row : List ℕ} → Kept way ks row → get_or way 0 0 ≡ 0
kept_first (none a b) = a
kept_first (more a b h k) = kept_first k

-- ---- the words of the record

abbrev pub last_of : List ℕ → ℕ → ℕ
last_of way depth = (get_or way depth 0 * 2 ^ ((8 - depth) % 4 * 16)) % 2 ^ 64

empty_at : (ws : List ℕ) (k : ℕ) → get_or ws (k / 4) 0 ≡ 0 → get_or (fields ws) k 0 ≡ 0
empty_at ws k e =
    get_unpack 16 4 ws k (3 - k % 4) (omega arith) ∙ ap (λ (z : ℕ). z / 2 ^ ((3 - k % 4) * 16) % 2 ^ 16) e
    ∙ ap (λ (z : ℕ). z % 2 ^ 16) (zero-div (2 ^ ((3 - k % 4) * 16)))

module _ (words : List ℕ) {way ks row : List ℕ} {depth : ℕ} (kept : Kept way ks row) (low : Low row) (deep : length row ≡ depth) (few : depth ≤ 8) where
  -- the word q has the last cells
  last_same : (q j : ℕ) → get_or words q 0 ≡ last_of way depth → q * 4 ≤ j → j < depth → depth ≤ q * 4 + 4 → get_or (fields words) j 0 ≡ get_or way (j + 1) 0 % 65536
  last_same q j e a l b =
      let s : 3 - j % 4 - (8 - depth) % 4 ≡ depth - (j + 1) = omega arith in
      let i : depth - (depth - (j + 1)) ≡ j + 1 = omega arith in
      field_at words q j a (omega arith) ∙ ap (λ (z : ℕ). z / 2 ^ ((3 - j % 4) * 16) % 2 ^ 16) e
      ∙ moved (get_or way depth 0) ((8 - depth) % 4) (3 - j % 4) (omega arith) (omega arith) ∙ ap (λ (z : ℕ). get_or way depth 0 / 2 ^ (z * 16) % 2 ^ 16) s
      ∙ behind kept low (omega arith) depth (depth - (j + 1)) (omega arith) (omega arith) (omega arith) ∙ ap (λ (z : ℕ). get_or way z 0 % 65536) i

  last_clean : (q k : ℕ) → get_or words q 0 ≡ last_of way depth → q * 4 < depth → depth ≤ k → k < q * 4 + 4 → get_or (fields words) k 0 ≡ 0
  last_clean q k e a l b =
      field_at words q k (omega arith) b ∙ ap (λ (z : ℕ). z / 2 ^ ((3 - k % 4) * 16) % 2 ^ 16) e
      ∙ emptied (get_or way depth 0) ((8 - depth) % 4) (3 - k % 4) (omega arith) (omega arith)

  pub plain_short : ((j : ℕ) → 2 ≤ j → get_or words j 0 ≡ 0) → depth ≤ 4 → get_or words 1 0 ≡ 0 → get_or words 0 0 ≡ last_of way depth → Plain words way depth
  plain_short rest l e1 e0 = record
      { short = omega arith; same = λ j h. last_same 0 j e0 (omega arith) h (omega arith); clean = λ k h. clean k h (dec_lt k 4) (ℕ_discrete depth 0) }
    where
      later : (j : ℕ) → 1 ≤ j → get_or words j 0 ≡ 0
      later zero h = absurd (omega arith)
      later (suc zero) h = e1
      later (suc (suc j)) h = rest (suc (suc j)) (omega arith)

      nothing : depth ≡ 0 → get_or words 0 0 ≡ 0
      nothing z = e0 ∙ ap (λ (d : ℕ). (get_or way d 0 * 2 ^ ((8 - depth) % 4 * 16)) % 2 ^ 64) z
          ∙ ap (λ (x : ℕ). (x * 2 ^ ((8 - depth) % 4 * 16)) % 2 ^ 64) (kept_first kept)
          ∙ ap (λ (x : ℕ). x % 2 ^ 64) (zero-mul (2 ^ ((8 - depth) % 4 * 16)))

      clean : (k : ℕ) → depth ≤ k → Dec (k < 4) → Dec (depth ≡ 0) → get_or (fields words) k 0 ≡ 0
      clean k h (yes a) (yes z) = let q : k / 4 ≡ 0 = omega arith in empty_at words k (ap (λ (i : ℕ). get_or words i 0) q ∙ nothing z)
      clean k h (yes a) (no z) = last_clean 0 k e0 (omega arith) h (omega arith)
      clean k h (no a) z = empty_at words k (later (k / 4) (omega arith))

  pub plain_long : ((j : ℕ) → 2 ≤ j → get_or words j 0 ≡ 0) → 4 < depth → get_or words 0 0 ≡ get_or way 4 0 → get_or words 1 0 ≡ last_of way depth → Plain words way depth
  plain_long rest l e0 e1 = record { short = omega arith; same = λ j h. same j h (dec_lt j 4); clean = λ k h. clean k h (dec_lt k 8) }
    where
      same : (j : ℕ) → j < depth → Dec (j < 4) → get_or (fields words) j 0 ≡ get_or way (j + 1) 0 % 65536
      same j h (yes a) =
          let i : 4 - (3 - j % 4) ≡ j + 1 = omega arith in
          field_at words 0 j (omega arith) (omega arith) ∙ ap (λ (z : ℕ). z / 2 ^ ((3 - j % 4) * 16) % 2 ^ 16) e0
          ∙ behind kept low (omega arith) 4 (3 - j % 4) (omega arith) (omega arith) (omega arith) ∙ ap (λ (z : ℕ). get_or way z 0 % 65536) i
      same j h (no a) = last_same 1 j e1 (omega arith) h (omega arith)

      clean : (k : ℕ) → depth ≤ k → Dec (k < 8) → get_or (fields words) k 0 ≡ 0
      clean k h (yes a) = last_clean 1 k e1 (omega arith) h (omega arith)
      clean k h (no a) = empty_at words k (rest (k / 4) (omega arith))

-- ---- the record is decided

module _ {words way : List ℕ} {depth : ℕ} where
  pub plainly : length words ≡ term_words → {r : Bool} → (r ≡ true → PlainOf words way depth) → r ≡ true → TermDecided words way depth r
  plainly eight p e = record {
    yes = λ q ks row kept low deep whole. plain_term words way ks row depth eight kept low deep whole
        (p q ks row kept low deep);
    no = λ q. absurd (true_not_false e q);
  }
