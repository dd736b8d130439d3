-- A store changes one field: the mask keeps the bits below it and above it, and the shift puts the new ones between
use mathlib.Core.Path.{◌≡◌, refl, sym, ap, ap₂, ◌∙◌, subst}
use mathlib.Core.List.{List, [], ◌∷◌, ◌++◌}
use Prim.Native.Nat.{ℕ, zero, suc, ◌+◌, ◌-◌, ◌*◌, ◌/◌, ◌%◌, ◌^◌, ◌≤◌, ◌<◌}
use native.Mathlib.Nat.{mod-lt, mod-mod, mod-eq_of_lt, div-eq_of_lt, mul-mod_left, add_comm, mul_assoc, mul-one}
use native.Mathlib.Omega.{arith}
use lib.ListN.{length, get_or, set}
use lib.Seq.{set-append_left}
use Rattle.std.proofs.lemmas.List.{set-append_right}
use lib.Dec.{eqb}
use lib.Pow.{pow_pos, pow-add, shr-shr, shl-shr, field, mod-mod-pow, shr_lt, high, low, ones_lt, ones_split, shl_exact}
use Rattle.std.proofs.lemmas.Nat.Bits.{and_pow}
use mathlib.Core.Bool.{not}
use borrow.Author.Tests.{eq-eqb, ne_eqb}
use lib.Bits.{bit_and, bit_or, and_shr, and_mod, or_shr, or_mod, and_mask, and_zero_r, or_zero_r}
use Rattle.bits.specs.Packed.{parts, unpack, fields, bits}
use Rattle.bits.specs.Laws.{length_parts, get_bit}

-- w' is w with v in the field of k bits from bit s on
pub record Put (k s w v w' : ℕ) : Type 0 where
  pub lower : w' % 2 ^ s ≡ w % 2 ^ s
  pub here : w' / 2 ^ s % 2 ^ k ≡ v
  pub upper : w' / 2 ^ (s + k) ≡ w / 2 ^ (s + k)

-- ---- a word that differs in one field has one element of its list replaced

parts_same : (k m w w' : ℕ) → ((u : ℕ) → u < m → w' / 2 ^ (u * k) % 2 ^ k ≡ w / 2 ^ (u * k) % 2 ^ k) → parts k m w' ≡ parts k m w
unfolding parts
parts_same k zero w w' h = refl
parts_same k (suc m) w w' h = ap₂ (λ (x : ℕ) (l : List ℕ). x ∷ l) (h m (omega arith)) (parts_same k m w w' (λ u l. h u (omega arith)))

module _ (k t w v w' : ℕ) (p : Put k (t * k) w v w') where
  below : (u : ℕ) → u < t → w' / 2 ^ (u * k) % 2 ^ k ≡ w / 2 ^ (u * k) % 2 ^ k
  below u h =
      let e : ℕ = t - suc u in
      let d : t ≡ u + 1 + e = omega arith in
      let x : t * k ≡ e * k + (k + u * k) = ap (λ (y : ℕ). y * k) d ∙ omega arith in
      let near : (n : ℕ) → n / 2 ^ (u * k) % 2 ^ k ≡ n % 2 ^ (t * k) % 2 ^ (k + u * k) / 2 ^ (u * k) =
      λ n. sym (ap (λ (y : ℕ). n % 2 ^ y % 2 ^ (k + u * k) / 2 ^ (u * k)) x
      ∙ ap (λ (y : ℕ). y / 2 ^ (u * k)) (mod-mod-pow n (e * k) (k + u * k)) ∙ field n k (u * k)) in
      near w' ∙ ap (λ (y : ℕ). y % 2 ^ (k + u * k) / 2 ^ (u * k)) p.lower ∙ sym (near w)

  above : (u : ℕ) → t < u → w' / 2 ^ (u * k) % 2 ^ k ≡ w / 2 ^ (u * k) % 2 ^ k
  above u h =
      let e : ℕ = u - suc t in
      let d : u ≡ t + 1 + e = omega arith in
      let x : u * k ≡ (t * k + k) + e * k = ap (λ (y : ℕ). y * k) d ∙ omega arith in
      let far : (n : ℕ) → n / 2 ^ (u * k) ≡ n / 2 ^ (t * k + k) / 2 ^ (e * k) = λ n. ap (λ (y : ℕ). n / 2 ^ y) x ∙ sym (shr-shr n (t * k + k) (e * k)) in
      ap (λ (y : ℕ). y % 2 ^ k) (far w' ∙ ap (λ (y : ℕ). y / 2 ^ (e * k)) p.upper ∙ sym (far w))

  set_parts : (m j : ℕ) → j + suc t ≡ m → parts k m w' ≡ set (parts k m w) j v
  unfolding parts
  set_parts zero j h = absurd (omega arith)
  set_parts (suc m) zero h =
      let e : m ≡ t = omega arith in
      ap₂ (λ (x : ℕ) (l : List ℕ). x ∷ l) (ap (λ (x : ℕ). w' / 2 ^ (x * k) % 2 ^ k) e ∙ p.here) (parts_same k m w w' (λ u l. below u (omega arith)))
  set_parts (suc m) (suc j) h = ap₂ (λ (x : ℕ) (l : List ℕ). x ∷ l) (above m (omega arith)) (set_parts m j (omega arith))

module _ (k m : ℕ) where
  set_word : (ws : List ℕ) (q j v w' : ℕ) → q < length ws → j < m → parts k m w' ≡ set (parts k m (get_or ws q 0)) j v
      → unpack k m (set ws q w') ≡ set (unpack k m ws) (q * m + j) v
  unfolding unpack
  set_word [] q j v w' l h e = absurd (omega arith)
  set_word (w ∷ ws) zero j v w' l h e =
      let b : j < length (parts k m w) = rw length_parts h in
      ap (λ (x : List ℕ). x ++ unpack k m ws) e ∙ sym (set-append_left (parts k m w) (unpack k m ws) j v b)
      ∙ ap (λ (x : ℕ). set (parts k m w ++ unpack k m ws) x v) (omega arith)
  set_word (w ∷ ws) (suc q) j v w' l h e =
      let i : suc q * m + j ≡ length (parts k m w) + (q * m + j) = rw length_parts (omega arith) in
      ap (λ (x : List ℕ). parts k m w ++ x) (set_word ws q j v w' (omega arith) h e)
      ∙ ap (λ (x : ℕ). parts k m w ++ set (unpack k m ws) x v) (omega arith)
      ∙ sym (set-append_right (parts k m w) (unpack k m ws) (length (parts k m w)) (length (parts k m w) + (q * m + j)) v refl (omega arith))
      ∙ ap (λ (x : ℕ). set (parts k m w ++ unpack k m ws) x v) (sym i)

-- ---- what the code's masks and shifts do to a word

cut : (a b c : ℕ) → (a + (b + c)) - b ≡ a + c
cut a b c = omega arith

-- `!(ones << s)` in a word of p + (k + s) bits
mask_is : (p k s : ℕ) → (2 ^ (p + (k + s)) - 1) - (2 ^ k - 1) * 2 ^ s ≡ (2 ^ p - 1) * 2 ^ k * 2 ^ s + (2 ^ s - 1)
mask_is p k s =
    ap (λ (x : ℕ). x - (2 ^ k - 1) * 2 ^ s)
    (ones_split p (k + s) ∙ ap₂ (λ (x y : ℕ). (2 ^ p - 1) * x + y) (pow-add 2 k s) (ones_split k s)
    ∙ ap (λ (x : ℕ). x + ((2 ^ k - 1) * 2 ^ s + (2 ^ s - 1))) (sym (mul_assoc (2 ^ p - 1) (2 ^ k) (2 ^ s))))
    ∙ cut ((2 ^ p - 1) * 2 ^ k * 2 ^ s) ((2 ^ k - 1) * 2 ^ s) (2 ^ s - 1)

-- `w & !(ones << s)`
and_put : (p k s w : ℕ) → w < 2 ^ (p + (k + s)) → Put k s w 0 (bit_and w ((2 ^ (p + (k + s)) - 1) - (2 ^ k - 1) * 2 ^ s))
and_put p k s w h =
    let a : ℕ = (2 ^ p - 1) * 2 ^ k in
    let mask : ℕ = (2 ^ (p + (k + s)) - 1) - (2 ^ k - 1) * 2 ^ s in
    let lo : mask % 2 ^ s ≡ 2 ^ s - 1 = ap (λ (x : ℕ). x % 2 ^ s) (mask_is p k s) ∙ low a s (ones_lt s) in
    let hi : mask / 2 ^ s ≡ a = ap (λ (x : ℕ). x / 2 ^ s) (mask_is p k s) ∙ high a s (ones_lt s) in
    let top : mask / 2 ^ (s + k) ≡ 2 ^ p - 1 = sym (shr-shr mask s k) ∙ ap (λ (x : ℕ). x / 2 ^ k) hi ∙ shl-shr (2 ^ p - 1) k in
    let fit : w < 2 ^ (p + (s + k)) = subst (λ (x : ℕ). w < 2 ^ (p + x)) (add_comm k s) h in
    record {
      lower = and_mod w mask s ∙ ap (bit_and (w % 2 ^ s)) lo ∙ and_mask (w % 2 ^ s) s ∙ mod-mod w (2 ^ s);
      here = ap (λ (x : ℕ). x % 2 ^ k) (and_shr w mask s ∙ ap (bit_and (w / 2 ^ s)) hi) ∙ and_mod (w / 2 ^ s) a k
          ∙ ap (bit_and (w / 2 ^ s % 2 ^ k)) (mul-mod_left (2 ^ p - 1) (2 ^ k)) ∙ and_zero_r (w / 2 ^ s % 2 ^ k);
      upper = and_shr w mask (s + k) ∙ ap (bit_and (w / 2 ^ (s + k))) top ∙ and_mask (w / 2 ^ (s + k)) p ∙ mod-eq_of_lt (shr_lt p (s + k) fit);
    }

-- `x | (v << s)`, where or-ing v onto x's field gives r
or_put : (k s w x u v r : ℕ) → v < 2 ^ k → bit_or u v ≡ r → Put k s w u x → Put k s w r (bit_or x (v * 2 ^ s))
or_put k s w x u v r h e p = record {
  lower = or_mod x (v * 2 ^ s) s ∙ ap (bit_or (x % 2 ^ s)) (mul-mod_left v (2 ^ s)) ∙ or_zero_r (x % 2 ^ s) ∙ p.lower;
  here = ap (λ (y : ℕ). y % 2 ^ k) (or_shr x (v * 2 ^ s) s ∙ ap (bit_or (x / 2 ^ s)) (shl-shr v s)) ∙ or_mod (x / 2 ^ s) v k
      ∙ ap₂ bit_or p.here (mod-eq_of_lt h) ∙ e;
  upper = or_shr x (v * 2 ^ s) (s + k) ∙ ap (bit_or (x / 2 ^ (s + k))) over ∙ or_zero_r (x / 2 ^ (s + k)) ∙ p.upper;
}
  where
    over : v * 2 ^ s / 2 ^ (s + k) ≡ 0
    over = sym (shr-shr (v * 2 ^ s) s k) ∙ ap (λ (y : ℕ). y / 2 ^ k) (shl-shr v s) ∙ div-eq_of_lt h

or_one : (d : ℕ) → d < 2 → bit_or d 1 ≡ 1
or_one zero h = refl
or_one (suc zero) h = refl
or_one (suc (suc d)) h = absurd (omega arith)

-- the same in 64 bits, as the code has it: a shift by s is a product by 2 ^ s, taken modulo 2 ^ 64
clear_put : (k s w : ℕ) → k + s ≤ 64 → w < 2 ^ 64 → Put k s w 0 (bit_and w ((2 ^ 64 - 1) - ((2 ^ k - 1) * 2 ^ s) % 2 ^ 64))
clear_put k s w l h =
    let e : (64 - (k + s)) + (k + s) ≡ 64 = omega arith in
    subst (λ (y : ℕ). Put k s w 0 (bit_and w ((2 ^ 64 - 1) - y))) (sym (shl_exact k s 64 (ones_lt k) l))
    (subst (λ (y : ℕ). Put k s w 0 (bit_and w ((2 ^ y - 1) - (2 ^ k - 1) * 2 ^ s))) e
    (and_put (64 - (k + s)) k s w (subst (λ (y : ℕ). w < 2 ^ y) (sym e) h)))

write_put : (k s w v : ℕ) → k + s ≤ 64 → w < 2 ^ 64 → v < 2 ^ k
    → Put k s w v (bit_or (bit_and w ((2 ^ 64 - 1) - ((2 ^ k - 1) * 2 ^ s) % 2 ^ 64)) ((v * 2 ^ s) % 2 ^ 64))
write_put k s w v l h f =
    subst (λ (y : ℕ). Put k s w v (bit_or (bit_and w ((2 ^ 64 - 1) - ((2 ^ k - 1) * 2 ^ s) % 2 ^ 64)) y)) (sym (shl_exact k s 64 f l))
    (or_put k s w _ 0 v v f refl (clear_put k s w l h))

mark_put : (s w : ℕ) → Put 1 s w 1 (bit_or w (1 * 2 ^ s))
mark_put s w = or_put 1 s w w (w / 2 ^ s % 2 ^ 1) 1 1 (omega arith) (or_one (w / 2 ^ s % 2) (mod-lt (w / 2 ^ s) (omega arith)))
    (record { lower = refl; here = refl; upper = refl })

-- ---- the stores of the code

pub put_field_sets : (ws : List ℕ) (i v : ℕ) → i < 4 * length ws → get_or ws (i / 4) 0 < 2 ^ 64 → v < 2 ^ 16
    → fields (set ws (i / 4) (bit_or (bit_and (get_or ws (i / 4) 0) ((2 ^ 64 - 1) - (65535 * 2 ^ ((3 - i % 4) * 16)) % 2 ^ 64)) ((v * 2 ^ ((3 - i % 4) * 16)) % 2 ^ 64)))
    ≡ set (fields ws) i v
put_field_sets ws i v h b f =
    let at : i / 4 * 4 + i % 4 ≡ i = omega arith in
    set_word 16 4 ws (i / 4) (i % 4) v _ (omega arith) (omega arith)
    (set_parts 16 (3 - i % 4) (get_or ws (i / 4) 0) v _ (write_put 16 ((3 - i % 4) * 16) (get_or ws (i / 4) 0) v (omega arith) b f) 4 (i % 4) (omega arith))
    ∙ ap (λ (x : ℕ). set (fields ws) x v) at

module _ (ws : List ℕ) (n : ℕ) (h : n < 64 * length ws) where
  put_bit : (v w' : ℕ) → Put 1 (63 - n % 64) (get_or ws (n / 64) 0) v w' → bits (set ws (n / 64) w') ≡ set (bits ws) n v
  put_bit v w' p =
      let at : n / 64 * 64 + n % 64 ≡ n = omega arith in
      set_word 1 64 ws (n / 64) (n % 64) v w' (omega arith) (omega arith)
      (set_parts 1 (63 - n % 64) (get_or ws (n / 64) 0) v w' (subst (λ (s : ℕ). Put 1 s (get_or ws (n / 64) 0) v w') (sym (mul-one (63 - n % 64))) p) 64
      (n % 64) (omega arith))
      ∙ ap (λ (x : ℕ). set (bits ws) x v) at

  -- b is the bit of n in its word
  module _ (b : ℕ) (e : b ≡ 2 ^ (63 - n % 64)) where
    one : 1 * 2 ^ (63 - n % 64) ≡ b
    one = omega arith

    pub mark_bit : bits (set ws (n / 64) (bit_or (get_or ws (n / 64) 0) b)) ≡ set (bits ws) n 1
    mark_bit = put_bit 1 _ (subst (λ (y : ℕ). Put 1 (63 - n % 64) (get_or ws (n / 64) 0) 1 (bit_or (get_or ws (n / 64) 0) y)) one
        (mark_put (63 - n % 64) (get_or ws (n / 64) 0)))

    pub clear_bit : get_or ws (n / 64) 0 < 2 ^ 64 → bits (set ws (n / 64) (bit_and (get_or ws (n / 64) 0) ((2 ^ 64 - 1) - b))) ≡ set (bits ws) n 0
    clear_bit h = put_bit 0 _ (subst (λ (y : ℕ). Put 1 (63 - n % 64) (get_or ws (n / 64) 0) 0 (bit_and (get_or ws (n / 64) 0) ((2 ^ 64 - 1) - y)))
        (shl_exact 1 (63 - n % 64) 64 (omega arith) (omega arith) ∙ one) (clear_put 1 (63 - n % 64) (get_or ws (n / 64) 0) (omega arith) h))

-- `w & b`
left : (d b : ℕ) → d < 2 → 0 < b → not (eqb (d * b) 0) ≡ eqb d 1
left zero b h l = rw (eq-eqb (0 * b) 0 (omega arith))
left (suc zero) b h l = rw (ne_eqb (1 * b) 0 (λ e. absurd (omega arith)))
left (suc (suc d)) b h l = absurd (omega arith)

pub masked_bit : (ws : List ℕ) (n b : ℕ) → b ≡ 2 ^ (63 - n % 64) → not (eqb (bit_and (get_or ws (n / 64) 0) b) 0) ≡ eqb (get_or (bits ws) n 0) 1
masked_bit ws n b e =
    let s : ℕ = 63 - n % 64 in
    let w : ℕ = get_or ws (n / 64) 0 in
    ap (λ (x : ℕ). not (eqb (bit_and w x) 0)) e ∙ ap (λ (x : ℕ). not (eqb x 0)) (and_pow w s)
    ∙ left (w / 2 ^ s % 2) (2 ^ s) (mod-lt (w / 2 ^ s) (omega arith)) (pow_pos s) ∙ ap (λ (x : ℕ). eqb x 1) (sym (get_bit ws n))
