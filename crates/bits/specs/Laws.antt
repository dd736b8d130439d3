-- What callers of the packed words use: lengths, what stands at an index, and the count of the set bits after a store
use Rattle.std.specs.Prelude.{◌≡◌, refl}
use Rattle.std.proofs.Math.Path.{sym, ap, ap₂}
use Rattle.std.proofs.Common.{◌∙◌, subst, div-add-mod', mod-lt, mul-one}
use mathlib.Core.List.{List, [], ◌∷◌, ◌++◌}
use Prim.Native.Nat.{ℕ, zero, suc, ◌+◌, ◌-◌, ◌*◌, ◌/◌, ◌%◌, ◌^◌, ◌≤◌, ◌<◌}
use Rattle.std.proofs.Math.Nat.{zero-div, zero-mod}
use native.Mathlib.Omega.{arith}
use Rattle.std.proofs.Math.ListN.{length, get_or, length-append, get_or-append}
use Rattle.std.proofs.Math.Seq.{get_or-append-add}
use Rattle.bits.specs.Packed.{parts, unpack, fields, bits}

-- ---- one word

pub length_parts : (k m w : ℕ) → length (parts k m w) ≡ m
unfolding parts
length_parts k zero w = refl
length_parts k (suc m) w = ap suc (length_parts k m w)

-- the j-th field has t fields below it
pub get_parts : (k m j t w : ℕ) → j + suc t ≡ m → get_or (parts k m w) j 0 ≡ w / 2 ^ (t * k) % 2 ^ k
unfolding parts
get_parts k zero j t w h = absurd (omega arith)
get_parts k (suc m) zero t w h =
    let e : m ≡ t = omega arith in
    ap (λ (x : ℕ). w / 2 ^ (x * k) % 2 ^ k) e
get_parts k (suc m) (suc j) t w h = get_parts k m j t w (omega arith)

pub parts_zero : (k m j : ℕ) → get_or (parts k m 0) j 0 ≡ 0
unfolding parts
parts_zero k zero j = refl
parts_zero k (suc m) zero = ap (λ (x : ℕ). x % 2 ^ k) (zero-div (2 ^ (m * k))) ∙ zero-mod (2 ^ k)
parts_zero k (suc m) (suc j) = parts_zero k m j

-- ---- a list of words

module _ (k m : ℕ) where
  pub length_unpack : (ws : List ℕ) → length (unpack k m ws) ≡ length ws * m
  unfolding unpack
  length_unpack [] = sym (omega arith)
  length_unpack (w ∷ ws) = length-append (parts k m w) (unpack k m ws) ∙ ap₂ (λ (x y : ℕ). x + y) (length_parts k m w) (length_unpack ws) ∙ omega arith

  -- the j-th field of the q-th word
  pub at_word : (ws : List ℕ) (q j : ℕ) → j < m → get_or (unpack k m ws) (q * m + j) 0 ≡ get_or (parts k m (get_or ws q 0)) j 0
  unfolding unpack
  at_word [] q j h = sym (parts_zero k m j)
  at_word (w ∷ ws) zero j h =
      let l : j < length (parts k m w) = rw length_parts h in
      ap (λ (x : ℕ). get_or (parts k m w ++ unpack k m ws) x 0) (omega arith) ∙ get_or-append (parts k m w) (unpack k m ws) 0 j l
  at_word (w ∷ ws) (suc q) j h =
      let e : suc q * m + j ≡ length (parts k m w) + (q * m + j) = rw length_parts (omega arith) in
      ap (λ (x : ℕ). get_or (parts k m w ++ unpack k m ws) x 0) e ∙ get_or-append-add (parts k m w) (unpack k m ws) (q * m + j) 0 ∙ at_word ws q j h

  -- the n-th field of all
  pub get_unpack : (ws : List ℕ) (n t : ℕ) → n % m + suc t ≡ m → get_or (unpack k m ws) n 0 ≡ get_or ws (n / m) 0 / 2 ^ (t * k) % 2 ^ k
  get_unpack ws n t h =
      ap (λ (x : ℕ). get_or (unpack k m ws) x 0) (sym (div-add-mod' n m)) ∙ at_word ws (n / m) (n % m) (omega arith)
      ∙ get_parts k m (n % m) t (get_or ws (n / m) 0) h

-- ---- fields

-- the field k, which is one of the word q
pub field_at : (ws : List ℕ) (q k : ℕ) → q * 4 ≤ k → k < q * 4 + 4 → get_or (fields ws) k 0 ≡ get_or ws q 0 / 2 ^ ((3 - k % 4) * 16) % 2 ^ 16
field_at ws q k a b =
    let e : k / 4 ≡ q = omega arith in
    get_unpack 16 4 ws k (3 - k % 4) (omega arith) ∙ ap (λ (i : ℕ). get_or ws i 0 / 2 ^ ((3 - k % 4) * 16) % 2 ^ 16) e

-- ---- bits

pub length_bits : (ws : List ℕ) → length (bits ws) ≡ 64 * length ws
length_bits ws = length_unpack 1 64 ws ∙ omega arith

pub get_bit : (ws : List ℕ) (n : ℕ) → get_or (bits ws) n 0 ≡ get_or ws (n / 64) 0 / 2 ^ (63 - n % 64) % 2
get_bit ws n = get_unpack 1 64 ws n (63 - n % 64) (omega arith) ∙ ap (λ (s : ℕ). get_or ws (n / 64) 0 / 2 ^ s % 2) (mul-one (63 - n % 64))

pub bit_low : (ws : List ℕ) (n : ℕ) → get_or (bits ws) n 0 < 2
bit_low ws n = subst (λ (x : ℕ). x < 2) (sym (get_bit ws n)) (mod-lt (get_or ws (n / 64) 0 / 2 ^ (63 - n % 64)) (omega arith))
