-- The first set bit of a word is behind its leading zeros; a shift drops the bits before the start, and `!w` turns clear bits into set ones
use mathlib.Core.Path.{◌≡◌, sym, ap, ap₂, ◌∙◌, subst}
use mathlib.Core.List.{List}
use Prim.Native.Nat.{ℕ, suc, ◌+◌, ◌-◌, ◌*◌, ◌/◌, ◌%◌, ◌^◌, ◌≤◌, ◌<◌}
use native.Mathlib.Nat.{mod-lt, mul-one, mul_assoc, mul-mod_left, add-mul-mod_self_right, zero-mul, zero-div, div-eq_of_lt, div-eq_of_lt-le, lt_of_lt_of_le}
use native.Mathlib.Decide.{dec_lt}
use native.Mathlib.Omega.{arith}
use lib.ListN.{length, get_or}
use lib.Pow.{pow_pos, pow-add, pow_mono, split, field, mod-mod-pow, high, shr_lt, shr-shr, shl-shr, ones_split, ones_sub-lt, le_ones}
use lib.Count.{count_leading_zeros, leading_top}
use Rattle.bits.specs.Packed.{parts, bits, Skipped, First}
use Rattle.bits.specs.Laws.{length_parts, get_parts, parts_zero, at_word, length_bits, get_bit}

-- ---- one word: bit i from the top

bit : (w i t : ℕ) → i + suc t ≡ 64 → get_or (parts 1 64 w) i 0 ≡ w / 2 ^ t % 2
bit w i t h = get_parts 1 64 i t w h ∙ ap (λ (s : ℕ). w / 2 ^ s % 2) (mul-one t)

-- `w << s`
module _ (w s : ℕ) (l : s < 64) where
  shifted : (i : ℕ) → s + i < 64 → get_or (parts 1 64 ((w * 2 ^ s) % 2 ^ 64)) i 0 ≡ get_or (parts 1 64 w) (s + i) 0
  shifted i h =
      let t : ℕ = 63 - (s + i) in
      let j : ℕ = s + i - s in
      let whole : suc i + (s + t) ≡ 64 = omega arith in
      let near : (w * 2 ^ s) % 2 ^ 64 / 2 ^ (s + t) % 2 ≡ w / 2 ^ t % 2 =
      ap (λ (x : ℕ). (w * 2 ^ s) % 2 ^ x / 2 ^ (s + t) % 2) (sym whole)
      ∙ ap (λ (x : ℕ). x % 2) (field (w * 2 ^ s) (suc i) (s + t))
      ∙ ap (λ (x : ℕ). (w * 2 ^ s) / 2 ^ (s + t) % 2 ^ x % 2) (omega arith)
      ∙ mod-mod-pow ((w * 2 ^ s) / 2 ^ (s + t)) i 1
      ∙ ap (λ (x : ℕ). x % 2) (sym (shr-shr (w * 2 ^ s) s t) ∙ ap (λ (x : ℕ). x / 2 ^ t) (shl-shr w s)) in
      bit ((w * 2 ^ s) % 2 ^ 64) i (s + t) (omega arith) ∙ near ∙ sym (bit w (s + i) t (omega arith))

  -- its s low bits are clear
  floor : (w * 2 ^ s) % 2 ^ 64 % 2 ^ s ≡ 0
  floor =
      let e : (64 - s) + s ≡ 64 = omega arith in
      ap (λ (x : ℕ). (w * 2 ^ s) % 2 ^ x % 2 ^ s) (sym e) ∙ mod-mod-pow (w * 2 ^ s) (64 - s) s ∙ mul-mod_left w (2 ^ s)

  pub none_left : (w * 2 ^ s) % 2 ^ 64 ≡ 0 → First 1 (parts 1 64 w) s 64
  none_left z = record {
    after = omega arith;
    within = omega (arith, length_parts 1 64 w);
    before = λ k a b e. clear k a b e;
    here = λ b. absurd (omega (arith, length_parts 1 64 w));
  }
    where
      clear : (k : ℕ) → s ≤ k → k < 64 → ¬ (get_or (parts 1 64 w) k 0 ≡ 1)
      clear k a b e =
          let d : s + (k - s) ≡ k = omega arith in
          let q = ap (λ (x : ℕ). get_or (parts 1 64 x) (k - s) 0) (sym z) ∙ shifted (k - s) (omega arith) ∙ ap (λ (x : ℕ). get_or (parts 1 64 w) x 0) d in
          omega (arith, parts_zero 1 64 (k - s), q)

  -- the first set bit stands in the word: else the word would lie below its clear low bits
  pub left_low : ¬ ((w * 2 ^ s) % 2 ^ 64 ≡ 0) → s + count_leading_zeros 64 ((w * 2 ^ s) % 2 ^ 64) < 64
  left_low nz = go (dec_lt (s + count_leading_zeros 64 ((w * 2 ^ s) % 2 ^ 64)) 64)
    where
      top : (j : ℕ) × (count_leading_zeros 64 ((w * 2 ^ s) % 2 ^ 64) + suc j ≡ 64) × (2 ^ j ≤ (w * 2 ^ s) % 2 ^ 64) × ((w * 2 ^ s) % 2 ^ 64 < 2 ^ suc j)
      top = leading_top 64 ((w * 2 ^ s) % 2 ^ 64) (omega arith) (mod-lt (w * 2 ^ s) (pow_pos 64))

      go : Dec (s + count_leading_zeros 64 ((w * 2 ^ s) % 2 ^ 64) < 64) → s + count_leading_zeros 64 ((w * 2 ^ s) % 2 ^ 64) < 64
      go (yes h) = h
      go (no h) =
          let small : (w * 2 ^ s) % 2 ^ 64 < 2 ^ s = lt_of_lt_of_le top.3 (pow_mono (omega (arith, top.1))) in
          let zero' : (w * 2 ^ s) % 2 ^ 64 / 2 ^ s * 2 ^ s ≡ 0 = ap (λ (y : ℕ). y * 2 ^ s) (div-eq_of_lt small) ∙ zero-mul (2 ^ s) in
          absurd (nz (sym (split ((w * 2 ^ s) % 2 ^ 64) s) ∙ ap₂ (λ (a b : ℕ). a + b) zero' floor))

  pub one_left : ¬ ((w * 2 ^ s) % 2 ^ 64 ≡ 0) → First 1 (parts 1 64 w) s (s + count_leading_zeros 64 ((w * 2 ^ s) % 2 ^ 64))
  one_left nz = record {
    after = omega arith;
    within = omega (arith, length_parts 1 64 w, in_this_word);
    before = λ k a b e. clear k a b e;
    here = λ b. sym (shifted z in_this_word) ∙ bit x z j top.1 ∙ set_bit;
  }
    where
      x : ℕ
      x = (w * 2 ^ s) % 2 ^ 64

      z : ℕ
      z = count_leading_zeros 64 ((w * 2 ^ s) % 2 ^ 64)

      top : (j : ℕ) × (count_leading_zeros 64 ((w * 2 ^ s) % 2 ^ 64) + suc j ≡ 64) × (2 ^ j ≤ (w * 2 ^ s) % 2 ^ 64) × ((w * 2 ^ s) % 2 ^ 64 < 2 ^ suc j)
      top = leading_top 64 ((w * 2 ^ s) % 2 ^ 64) (omega arith) (mod-lt (w * 2 ^ s) (pow_pos 64))

      j : ℕ
      j = top.0

      set_bit : (w * 2 ^ s) % 2 ^ 64 / 2 ^ j % 2 ≡ 1
      set_bit =
          let e : (w * 2 ^ s) % 2 ^ 64 / 2 ^ j ≡ 1 = div-eq_of_lt-le (2 ^ j) (omega (arith, top.2)) (omega (arith, top.3)) in
          ap (λ (y : ℕ). y % 2) e

      in_this_word : s + z < 64
      in_this_word = left_low nz

      clear : (k : ℕ) → s ≤ k → k < s + z → ¬ (get_or (parts 1 64 w) k 0 ≡ 1)
      clear k a b e =
          let i : ℕ = k - s in
          let d : s + i ≡ k = omega arith in
          let y : (w * 2 ^ s) % 2 ^ 64 / 2 ^ (63 - i) ≡ 0 = div-eq_of_lt (lt_of_lt_of_le top.3 (pow_mono (omega (arith, top.1)))) in
          let q = sym (bit x i (63 - i) (omega (arith, in_this_word))) ∙ shifted i (omega (arith, in_this_word)) ∙ ap (λ (c : ℕ). get_or (parts 1 64 w) c 0) d in
          omega (arith, ap (λ (c : ℕ). c % 2) y, q)

-- ---- `w << s << t`

spread : (q c r t : ℕ) → (q * c + r) * t ≡ r * t + (q * t) * c
spread q c r t = omega arith

shift_on : (a t : ℕ) → (a % 2 ^ 64 * 2 ^ t) % 2 ^ 64 ≡ (a * 2 ^ t) % 2 ^ 64
shift_on a t =
    sym (ap (λ (x : ℕ). (x * 2 ^ t) % 2 ^ 64) (sym (split a 64)) ∙ ap (λ (x : ℕ). x % 2 ^ 64) (spread (a / 2 ^ 64) (2 ^ 64) (a % 2 ^ 64) (2 ^ t))
    ∙ add-mul-mod_self_right (a % 2 ^ 64 * 2 ^ t) (a / 2 ^ 64 * 2 ^ t) (2 ^ 64))

-- two shifts are one
pub shift_twice : (w s t : ℕ) → ((w * 2 ^ s) % 2 ^ 64 * 2 ^ t) % 2 ^ 64 ≡ (w * 2 ^ (s + t)) % 2 ^ 64
shift_twice w s t = shift_on (w * 2 ^ s) t ∙ ap (λ (x : ℕ). x % 2 ^ 64) (mul_assoc w (2 ^ s) (2 ^ t) ∙ ap (λ (x : ℕ). w * x) (sym (pow-add 2 s t)))

-- ---- `!w`

apart : (d q c b r : ℕ) → r ≤ b → ((d + q) * c + b) - (q * c + r) ≡ d * c + (b - r)
apart d q c b r h = omega arith

-- the upper bits of `!w` are those of w, inverted
not_shr : (p t w : ℕ) → w < 2 ^ (p + t) → ((2 ^ (p + t) - 1) - w) / 2 ^ t ≡ (2 ^ p - 1) - w / 2 ^ t
not_shr p t w h =
    let q : ℕ = w / 2 ^ t in
    let d : ℕ = (2 ^ p - 1) - q in
    let r_le : w % 2 ^ t ≤ 2 ^ t - 1 = le_ones t (mod-lt w (pow_pos t)) in
    let q_le : q ≤ 2 ^ p - 1 = le_ones p (shr_lt p t h) in
    let e : 2 ^ p - 1 ≡ d + q = omega arith in
    ap (λ (x : ℕ). x / 2 ^ t) (ap₂ (λ (x y : ℕ). x - y) (ones_split p t ∙ ap (λ (x : ℕ). x * 2 ^ t + (2 ^ t - 1)) e) (sym (split w t))
    ∙ apart d q (2 ^ t) (2 ^ t - 1) (w % 2 ^ t) r_le) ∙ high d t (ones_sub-lt t (w % 2 ^ t))

odd : (m q : ℕ) → q < 2 * m → ((2 * m - 1) - q) % 2 + q % 2 ≡ 1
odd m q h = omega arith

flip : (t w : ℕ) → t < 64 → w < 2 ^ 64 → ((2 ^ 64 - 1) - w) / 2 ^ t % 2 + w / 2 ^ t % 2 ≡ 1
flip t w l h =
    let p : ℕ = 63 - t in
    let e : suc p + t ≡ 64 = omega arith in
    let two : 2 ^ suc p ≡ 2 * 2 ^ p = omega arith in
    let h' : w < 2 ^ (suc p + t) = subst (λ (x : ℕ). w < 2 ^ x) (sym e) h in
    ap (λ (x : ℕ). ((2 ^ x - 1) - w) / 2 ^ t % 2 + w / 2 ^ t % 2) (sym e)
    ∙ ap (λ (x : ℕ). x % 2 + w / 2 ^ t % 2) (not_shr (suc p) t w h' ∙ ap (λ (x : ℕ). (x - 1) - w / 2 ^ t) two)
    ∙ odd (2 ^ p) (w / 2 ^ t) (subst (λ (x : ℕ). w / 2 ^ t < x) two (shr_lt (suc p) t h'))

flipped : (w i : ℕ) → w < 2 ^ 64 → i < 64 → get_or (parts 1 64 ((2 ^ 64 - 1) - w)) i 0 + get_or (parts 1 64 w) i 0 ≡ 1
flipped w i b h =
    let e : i + suc (63 - i) ≡ 64 = omega arith in
    ap₂ (λ (x y : ℕ). x + y) (bit ((2 ^ 64 - 1) - w) i (63 - i) e) (bit w i (63 - i) e) ∙ flip (63 - i) w (omega arith) b

-- the first set bit of `!w` is the first clear one of w
pub first_clear : (w s r : ℕ) → w < 2 ^ 64 → First 1 (parts 1 64 ((2 ^ 64 - 1) - w)) s r → First 0 (parts 1 64 w) s r
first_clear w s r b f = record {
  after = f.after;
  within = omega (arith, f.within, length_parts 1 64 w, length_parts 1 64 ((2 ^ 64 - 1) - w));
  before = λ k a c e. f.before k a c (let q = flipped w k b (omega (arith, f.within, length_parts 1 64 ((2 ^ 64 - 1) - w))) in omega arith);
  here =
      λ c. let q = flipped w r b (omega (arith, length_parts 1 64 w)) in omega
      (arith, f.here (omega (arith, length_parts 1 64 w, length_parts 1 64 ((2 ^ 64 - 1) - w))));
}

-- ---- all words: the search has come to bit s of word q, the bit n of all, and r is what the word gives

module _ (v : ℕ) (ws : List ℕ) (from n q s r : ℕ) (at : n ≡ q * 64 + s) (small : s < 64) (a : from ≤ n) (h : q < length ws) (skipped : Skipped v (bits ws) from n)
    (f : First v (parts 1 64 (get_or ws q 0)) s r) where
  long : length (parts 1 64 (get_or ws q 0)) ≡ 64
  long = length_parts 1 64 (get_or ws q 0)

  -- the places of this word before r
  further : Skipped v (bits ws) from (q * 64 + r)
  further k b c e = go (dec_lt k n)
    where
      go : Dec (k < n) → ⊥
      go (yes d) = skipped k b d e
      go (no d) =
          let i : ℕ = k - q * 64 in
          let is : q * 64 + i ≡ k = omega arith in
          f.before i (omega arith) (omega arith) (sym (at_word 1 64 ws q i (omega (arith, f.within, long))) ∙ ap (λ (x : ℕ). get_or (bits ws) x 0) is ∙ e)

  pub found : r < 64 → First v (bits ws) from (q * 64 + r)
  found c = record {
    after = omega (arith, f.after);
    within = omega (arith, length_bits ws);
    before = further;
    here = λ d. at_word 1 64 ws q r c ∙ f.here (omega (arith, long));
  }

  pub passed : 64 ≤ r → Skipped v (bits ws) from (q * 64 + 64)
  passed c = let e : r ≡ 64 = omega (arith, f.within, long) in subst (λ (x : ℕ). Skipped v (bits ws) from (q * 64 + x)) e further

pub none_found : (v : ℕ) (ws : List ℕ) (from n : ℕ) → from ≤ n → n ≡ 64 * length ws → Skipped v (bits ws) from n → First v (bits ws) from n
none_found v ws from n a e s = record { after = a; within = omega (arith, length_bits ws); before = s; here = λ h. absurd (omega (arith, length_bits ws)) }

-- ---- a word that is zero

pub zero_bit : (ws : List ℕ) (k : ℕ) → get_or ws (k / 64) 0 ≡ 0 → get_or (bits ws) k 0 ≡ 0
zero_bit ws k z = get_bit ws k ∙ ap (λ (w : ℕ). w / 2 ^ (63 - k % 64) % 2) z ∙ ap (λ (x : ℕ). x % 2) (zero-div (2 ^ (63 - k % 64)))
