-- A word is zero from a field on exactly where the shift leaves nothing, and a record is zero behind its term word by word.
use mathlib.Core.Path.{◌≡◌, sym, ap, ◌∙◌}
use mathlib.Core.List.{List}
use mathlib.Core.Bool.{Bool, true, false}
use Prim.Native.Nat.{ℕ, zero, suc, ◌+◌, ◌-◌, ◌*◌, ◌/◌, ◌%◌, ◌^◌, ◌≤◌, ◌<◌}
use native.Mathlib.Nat.{mul-mod_left, mod-add-div, zero-add, mul_comm, mul_assoc, mul-div_cancel, mul-div-mul_right}
use native.Mathlib.Decide.{dec_lt}
use native.Mathlib.Omega.{arith}
use lib.Dec.{lit<}
use lib.ListN.{length, get_or, drop, get_or-eq_default, length-drop}
use Rattle.std.specs.Bool.{MatchBool}
use Rattle.std.specs.List.{AllWithin, HoldsAt}
use Rattle.std.proofs.lemmas.List.{get_or-drop}
use Rattle.deciding.specs.Deciding.{Decides, decided, denied}
use Rattle.bits.specs.Packed.{fields}
use Rattle.bits.specs.Laws.{length_unpack, field_at}
use Rattle.book.specs.Filling.{Zeros}

-- ---- of a word w the last 4 - r fields

-- a number of which nothing is left is so often the divisor
multiple : (w b : ℕ) → w % b ≡ 0 → w ≡ w / b * b
multiple w b e = sym (mod-add-div w b) ∙ ap (λ (r : ℕ). r + b * (w / b)) e ∙ zero-add (b * (w / b)) ∙ mul_comm b (w / b)

-- nothing is left of w when it is shifted by a exactly where its low part is zero
shift : (w a b : ℕ) → 0 < a → (w * a) % (b * a) ≡ 0 → w % b ≡ 0
shift w a b h e =
    let q : w * a ≡ w / b * b * a = multiple (w * a) (b * a) e ∙ ap (λ (k : ℕ). k * (b * a)) (mul-div-mul_right w b h) ∙ sym (mul_assoc (w / b) b a) in
    let d : w ≡ w / b * b = sym (mul-div_cancel w h) ∙ ap (λ (k : ℕ). k / a) q ∙ mul-div_cancel (w / b * b) h in
    ap (λ (k : ℕ). k % b) d ∙ mul-mod_left (w / b) b

unshift : (w a b : ℕ) → w % b ≡ 0 → (w * a) % (b * a) ≡ 0
unshift w a b e =
    let q : w * a ≡ w / b * (b * a) = ap (λ (k : ℕ). k * a) (multiple w b e) ∙ mul_assoc (w / b) b a in
    ap (λ (k : ℕ). k % (b * a)) q ∙ mul-mod_left (w / b) (b * a)

-- a low part of b * 65,536 is zero exactly where that of b and the field above it are
both_low : (w b : ℕ) → w % b ≡ 0 → w / b % 65536 ≡ 0 → w % (b * 65536) ≡ 0
both_low w b e f =
    let q : w ≡ w / b / 65536 * (b * 65536) =
    multiple w b e ∙ ap (λ (k : ℕ). k * b) (multiple (w / b) 65536 f) ∙ mul_assoc (w / b / 65536) 65536 b
    ∙ ap (λ (k : ℕ). w / b / 65536 * k) (mul_comm 65536 b) in
    ap (λ (k : ℕ). k % (b * 65536)) q ∙ mul-mod_left (w / b / 65536) (b * 65536)

low_both : (w b : ℕ) → 0 < b → w % (b * 65536) ≡ 0 → (w % b ≡ 0) × (w / b % 65536 ≡ 0)
low_both w b h e =
    let n : ℕ = w / (b * 65536) in
    let q : w ≡ n * 65536 * b = multiple w (b * 65536) e ∙ ap (λ (k : ℕ). n * k) (mul_comm b 65536) ∙ sym (mul_assoc n 65536 b) in
    let d : w / b ≡ n * 65536 = ap (λ (k : ℕ). k / b) q ∙ mul-div_cancel (n * 65536) h in
    (ap (λ (k : ℕ). k % b) q ∙ mul-mod_left (n * 65536) b, ap (λ (k : ℕ). k % 65536) d ∙ mul-mod_left n 65536)

low_4 : (w : ℕ) → w < 18446744073709551616 → w % 281474976710656 ≡ 0 → w / 281474976710656 % 65536 ≡ 0 → w ≡ 0
low_4 w l a b = omega arith

shift_1 : (w : ℕ) → (w * 65536) % 18446744073709551616 ≡ 0 → w % 281474976710656 ≡ 0
shift_1 w e = shift w 65536 281474976710656 (lit< tt) e

shift_2 : (w : ℕ) → (w * 4294967296) % 18446744073709551616 ≡ 0 → w % 4294967296 ≡ 0
shift_2 w e = shift w 4294967296 4294967296 (lit< tt) e

low_2 : (w : ℕ) → w % 65536 ≡ 0 → w / 65536 % 65536 ≡ 0 → w % 4294967296 ≡ 0
low_2 w a b = both_low w 65536 a b

of_2 : (w : ℕ) → w % 4294967296 ≡ 0 → (w % 65536 ≡ 0) × (w / 65536 % 65536 ≡ 0)
of_2 w e = low_both w 65536 (lit< tt) e

of_3 : (w : ℕ) → w % 281474976710656 ≡ 0 → (w % 4294967296 ≡ 0) × (w / 4294967296 % 65536 ≡ 0)
of_3 w e = low_both w 4294967296 (lit< tt) e

whole : (w : ℕ) → w % 65536 ≡ 0 → w / 2 ^ (0 * 16) % 2 ^ 16 ≡ 0
whole w e = let d : w / 2 ^ (0 * 16) ≡ w = omega arith in ap (λ (x : ℕ). x % 2 ^ 16) d ∙ e

tail_clear : (w r t : ℕ) → r + t < 4 → (w * 2 ^ (r * 16)) % 2 ^ 64 ≡ 0 → w / 2 ^ (t * 16) % 2 ^ 16 ≡ 0
tail_clear w zero zero h e = omega arith
tail_clear w zero (suc zero) h e = omega arith
tail_clear w zero (suc (suc zero)) h e = omega arith
tail_clear w zero (suc (suc (suc zero))) h e = omega arith
tail_clear w zero (suc (suc (suc (suc t)))) h e = absurd (omega arith)
tail_clear w (suc zero) zero h e = whole w (of_2 w (of_3 w (shift_1 w e)).0).0
tail_clear w (suc zero) (suc zero) h e = (of_2 w (of_3 w (shift_1 w e)).0).1
tail_clear w (suc zero) (suc (suc zero)) h e = (of_3 w (shift_1 w e)).1
tail_clear w (suc zero) (suc (suc (suc t))) h e = absurd (omega arith)
tail_clear w (suc (suc zero)) zero h e = whole w (of_2 w (shift_2 w e)).0
tail_clear w (suc (suc zero)) (suc zero) h e = (of_2 w (shift_2 w e)).1
tail_clear w (suc (suc zero)) (suc (suc t)) h e = absurd (omega arith)
tail_clear w (suc (suc (suc zero))) zero h e = whole w (shift w 281474976710656 65536 (lit< tt) e)
tail_clear w (suc (suc (suc zero))) (suc t) h e = absurd (omega arith)
tail_clear w (suc (suc (suc (suc r)))) t h e = absurd (omega arith)

tail_left : (w r : ℕ) → r < 4 → w < 2 ^ 64 → ((t : ℕ) → r + t < 4 → w / 2 ^ (t * 16) % 2 ^ 16 ≡ 0) → (w * 2 ^ (r * 16)) % 2 ^ 64 ≡ 0
tail_left w zero h b f =
    let q = low_4 w b (both_low w 4294967296 (low_2 w (omega (arith, f 0 (omega arith))) (f 1 (omega arith))) (f 2 (omega arith))) (f 3 (omega arith)) in
    ap (λ (x : ℕ). (x * 2 ^ (0 * 16)) % 2 ^ 64) q
tail_left w (suc zero) h b f = unshift w 65536 281474976710656
    (both_low w 4294967296 (low_2 w (omega (arith, f 0 (omega arith))) (f 1 (omega arith))) (f 2 (omega arith)))
tail_left w (suc (suc zero)) h b f = unshift w 4294967296 4294967296 (low_2 w (omega (arith, f 0 (omega arith))) (f 1 (omega arith)))
tail_left w (suc (suc (suc zero))) h b f = unshift w 281474976710656 65536 (omega (arith, f 0 (omega arith)))
tail_left w (suc (suc (suc (suc r)))) h b f = absurd (omega arith)

pub word_clear : (ws : List ℕ) (q r : ℕ) → (get_or ws q 0 * 2 ^ (r * 16)) % 2 ^ 64 ≡ 0 → (k : ℕ) → q * 4 + r ≤ k → k < q * 4 + 4 → get_or (fields ws) k 0 ≡ 0
word_clear ws q r e k a b = field_at ws q k (omega arith) b ∙ tail_clear (get_or ws q 0) r (3 - k % 4) (omega arith) e

pub word_left : (ws : List ℕ) (q r : ℕ) → r < 4 → get_or ws q 0 < 2 ^ 64 → ((k : ℕ) → q * 4 + r ≤ k → k < q * 4 + 4 → get_or (fields ws) k 0 ≡ 0)
    → (get_or ws q 0 * 2 ^ (r * 16)) % 2 ^ 64 ≡ 0
word_left ws q r h b f = tail_left (get_or ws q 0) r h b (λ t l. one t l)
  where
    one : (t : ℕ) → r + t < 4 → get_or ws q 0 / 2 ^ (t * 16) % 2 ^ 16 ≡ 0
    one t l =
        let k : ℕ = q * 4 + (3 - t) in
        let e : 3 - (q * 4 + (3 - t)) % 4 ≡ t = omega arith in
        ap (λ (x : ℕ). get_or ws q 0 / 2 ^ (x * 16) % 2 ^ 16) (sym e) ∙ sym (field_at ws q (q * 4 + (3 - t)) (omega arith) (omega arith))
        ∙ f (q * 4 + (3 - t)) (omega arith) (omega arith)

past_end : (ws : List ℕ) (k : ℕ) → length ws * 4 ≤ k → get_or (fields ws) k 0 ≡ 0
past_end ws k h = get_or-eq_default (fields ws) 0 (omega (arith, length_unpack 16 4 ws))

unshifted : (w : ℕ) → w < 2 ^ 64 → (w * 2 ^ (0 * 16)) % 2 ^ 64 ≡ 0 → w ≡ 0
unshifted w b e = omega arith

module _ (ws : List ℕ) (from : ℕ) where
  pub clear_past : length ws ≤ from / 4 → Zeros (fields ws) from
  clear_past h k a = past_end ws k (omega arith)

  -- the word of `from` is not zero from there on
  pub first_decides : get_or ws (from / 4) 0 < 2 ^ 64 → ¬ ((get_or ws (from / 4) 0 * 2 ^ (from % 4 * 16)) % 2 ^ 64 ≡ 0) → ¬ (Zeros (fields ws) from)
  first_decides b n z = n (word_left ws (from / 4) (from % 4) (omega arith) b (λ k a l. z k (omega arith)))

  -- it is, so the words behind it decide
  pub rest_decides : (get_or ws (from / 4) 0 * 2 ^ (from % 4 * 16)) % 2 ^ 64 ≡ 0 → ((k : ℕ) → get_or ws k 0 < 2 ^ 64) → (r : Bool)
      → MatchBool r (AllWithin (λ w. w ≡ 0) (drop (from / 4 + 1) ws) 0 (length (drop (from / 4 + 1) ws)))
      ((k : ℕ) × (k < length (drop (from / 4 + 1) ws)) × HoldsAt (λ w. ¬ (w ≡ 0)) (drop (from / 4 + 1) ws) k)
      → Decides (Zeros (fields ws) from) r
  rest_decides e fits true h = decided zeros
    where
      behind : (i : ℕ) → from / 4 < i → i < length ws → get_or ws i 0 ≡ 0
      behind i l m =
          let d : from / 4 + 1 + (i - (from / 4 + 1)) ≡ i = omega arith in
          ap (λ (j : ℕ). get_or ws j 0) (sym d) ∙ sym (get_or-drop (from / 4 + 1) ws (i - (from / 4 + 1)) 0)
          ∙ h (i - (from / 4 + 1)) 0 (omega arith) (omega (arith, length-drop (from / 4 + 1) ws))

      zeros : Zeros (fields ws) from
      zeros k a = go (dec_lt k (from / 4 * 4 + 4)) (dec_lt (k / 4) (length ws))
        where
          go : Dec (k < from / 4 * 4 + 4) → Dec (k / 4 < length ws) → get_or (fields ws) k 0 ≡ 0
          go (yes l) d = word_clear ws (from / 4) (from % 4) e k (omega arith) l
          go (no l) (yes m) = word_clear ws (k / 4) 0 (ap (λ (w : ℕ). (w * 2 ^ (0 * 16)) % 2 ^ 64) (behind (k / 4) (omega arith) m)) k (omega arith) (omega arith)
          go (no l) (no m) = past_end ws k (omega arith)
  rest_decides e fits false h = denied (λ z. h.2 0
      (get_or-drop (from / 4 + 1) ws h.0 0
      ∙ unshifted (get_or ws (from / 4 + 1 + h.0) 0) (fits (from / 4 + 1 + h.0))
      (word_left ws (from / 4 + 1 + h.0) 0 (omega arith) (fits (from / 4 + 1 + h.0)) (λ k a l. z k (omega arith)))))
