-- The set bits of a map are the ones of its words, added up
use mathlib.Core.Path.{◌≡◌, refl, sym, ap, ap₂, ◌∙◌}
use mathlib.Core.List.{List, [], ◌∷◌}
use Prim.Native.Nat.{ℕ, zero, suc, ◌+◌, ◌*◌, ◌/◌, ◌%◌, ◌^◌, ◌<◌}
use native.Mathlib.Nat.{mod-lt, mod-one, mod-eq_of_lt, mul-one}
use native.Mathlib.Numerals.{one-add}
use native.Mathlib.Omega.{arith}
use lib.ListN.{get_or}
use lib.Pow.{pow_pos, mod-pow-add}
use lib.Count.{ones, ones_cat}
use Rattle.std.specs.List.{sum_by}
use Rattle.std.proofs.lemmas.List.Sums.{sum_by-cons, sum_by-append}
use Rattle.bits.specs.Packed.{parts, unpack, bits, sum}

ones_bit : (r : ℕ) → r < 2 → ones r ≡ r
unfolding ones
ones_bit zero h = refl
ones_bit (suc zero) h = refl
ones_bit (suc (suc r)) h = absurd (omega arith)

-- the m low bits of a word
sum_parts : (m w : ℕ) → sum (parts 1 m w) ≡ ones (w % 2 ^ m)
unfolding parts ones
sum_parts zero w = sym (ap ones (mod-one w))
sum_parts (suc m) w =
    sum_by-cons (λ x. x) (w / 2 ^ (m * 1) % 2 ^ 1) (parts 1 m w)
    ∙ ap₂ (λ (x y : ℕ). x + y) (ap (λ (s : ℕ). w / 2 ^ s % 2) (mul-one m) ∙ sym (ones_bit (w / 2 ^ m % 2) (mod-lt (w / 2 ^ m) (omega arith)))) (sum_parts m w)
    ∙ sym (ap (λ (s : ℕ). ones (w % 2 ^ s)) (sym (one-add m)) ∙ ap ones (mod-pow-add w 1 m) ∙ ones_cat m (w / 2 ^ m % 2) (w % 2 ^ m) (mod-lt w (pow_pos m)))

-- those of all words
pub sum_ones : (ws : List ℕ) → ((k : ℕ) → get_or ws k 0 < 2 ^ 64) → sum_by ones ws ≡ sum (bits ws)
unfolding unpack
sum_ones [] h = refl
sum_ones (w ∷ ws) h =
    sum_by-cons ones w ws ∙ ap₂ (λ (x y : ℕ). x + y) (ap ones (sym (mod-eq_of_lt (h 0))) ∙ sym (sum_parts 64 w)) (sum_ones ws (λ k. h (suc k)))
    ∙ sym (sum_by-append (λ x. x) (parts 1 64 w) (bits ws))
