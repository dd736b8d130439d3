-- A word is known by its bits
use mathlib.Core.Path.{◌≡◌, refl, sym, ap, ap₂, ◌∙◌}
use mathlib.Core.Bool.{Bool, true, false, true≢false}
use Rattle.std.specs.Bool.{MatchBool}
use Rattle.std.specs.List.{AllWithin, HoldsAt}
use mathlib.Core.List.{List}
use Prim.Native.Nat.{ℕ, zero, suc, ◌+◌, ◌-◌, ◌*◌, ◌/◌, ◌%◌, ◌^◌, ◌<◌}
use native.Mathlib.Nat.{mod-one, mod-eq_of_lt, mul-one}
use native.Mathlib.Numerals.{one-add}
use native.Mathlib.Omega.{arith}
use lib.ListN.{length, get_or, replicate, length-replicate}
use lib.Seq.{ext_get_or}
use lib.Pow.{mod-pow-add}
use Rattle.bits.specs.Packed.{bits}
use Rattle.bits.specs.Laws.{get_parts, at_word}

-- ---- the m low bits of two words

low_same : (m w v : ℕ) → ((t : ℕ) → t < m → w / 2 ^ t % 2 ≡ v / 2 ^ t % 2) → w % 2 ^ m ≡ v % 2 ^ m
low_same zero w v h = mod-one w ∙ sym (mod-one v)
low_same (suc m) w v h =
    ap (λ (s : ℕ). w % 2 ^ s) (sym (one-add m)) ∙ mod-pow-add w 1 m
    ∙ ap₂ (λ (x y : ℕ). x * 2 ^ m + y) (h m (omega arith)) (low_same m w v (λ t l. h t (omega arith)))
    ∙ sym (ap (λ (s : ℕ). v % 2 ^ s) (sym (one-add m)) ∙ mod-pow-add v 1 m)

bit_at : (ws : List ℕ) (i t : ℕ) → t < 64 → get_or (bits ws) (i * 64 + (63 - t)) 0 ≡ get_or ws i 0 / 2 ^ t % 2
bit_at ws i t h = at_word 1 64 ws i (63 - t) (omega arith) ∙ get_parts 1 64 (63 - t) t (get_or ws i 0) (omega arith) ∙ ap (λ (s : ℕ). get_or ws i 0 / 2 ^ s % 2) (mul-one t)

same_word : (a b : List ℕ) (i : ℕ) → get_or a i 0 < 2 ^ 64 → get_or b i 0 < 2 ^ 64 → bits a ≡ bits b → get_or a i 0 ≡ get_or b i 0
same_word a b i ha hb e =
    sym (mod-eq_of_lt ha)
    ∙ low_same 64 (get_or a i 0) (get_or b i 0) (λ t l. sym (bit_at a i t l) ∙ ap (λ (x : List ℕ). get_or x (i * 64 + (63 - t)) 0) e ∙ bit_at b i t l)
    ∙ mod-eq_of_lt hb

-- maps of one length with the same bits are equal
pub same_words : (a b : List ℕ) → length a ≡ length b → ((k : ℕ) → get_or a k 0 < 2 ^ 64) → ((k : ℕ) → get_or b k 0 < 2 ^ 64) → bits a ≡ bits b → a ≡ b
same_words a b l ha hb e = ext_get_or 0 a b l (λ k h. same_word a b k (ha k) (hb k) e)

-- ---- zeros

zero_at : (n k : ℕ) → ◌≡◌ {A = ℕ} (get_or (replicate n 0) k 0) 0
zero_at zero k = refl
zero_at (suc n) zero = refl
zero_at (suc n) (suc k) = zero_at n k

-- with the bits of zeros all words are zero, so `all` does not answer false
pub all_zeros : (r : Bool) (map : List ℕ) → MatchBool r (AllWithin (λ x. x ≡ 0) map 0 (length map)) ((k : ℕ) × (k < length map) × HoldsAt (λ x. ¬ (x ≡ 0)) map k)
    → ((k : ℕ) → get_or map k 0 < 2 ^ 64) → bits map ≡ bits (replicate (length map) 0) → ¬ (r ≡ false)
all_zeros true map h low e f = true≢false f
all_zeros false map h low e f =
    let n : ℕ = length map in
    let same : map ≡ replicate n 0 = same_words map (replicate n 0) (sym (length-replicate n 0)) low (λ k. omega (arith, zero_at n k)) e in
    h.2 0 (ap (λ (l : List ℕ). get_or l h.0 0) same ∙ zero_at n h.0)
