-- A set of numbers below 4,096 in 65 words: bit n of the first 64 for the number n, and behind them a head, whose bit q says that word q counts
use Rattle.std.specs.Prelude.{◌≡◌, ◌⊎◌, List, [], ◌∷◌, Option, Some, None, Bool, true, false, cond, ◌&&◌, ℕ, zero, suc, ◌+◌, ◌-◌, ◌*◌, ◌/◌, ◌%◌, ◌^◌, ◌≤◌, ◌<◌, eqb, length, get_or}
use Rattle.std.proofs.Common.{refl, ap, ◌∙◌, inl, inr, arith}
use Rattle.std.proofs.Math.Decide.{ℕ_discrete}
use Rattle.std.proofs.Math.ListN.{get_or-eq_default}
use Rattle.bits.specs.declared.numbers.NumberAndRest.{NumberAndRest}
use Rattle.bits.specs.Packed.{bits}
use Rattle.bits.specs.Laws.{length_bits}

-- does word q count?
abbrev pub counts : List ℕ → ℕ → Bool
counts ws q = eqb (get_or (bits ws) (4096 + q) 0) 1

-- is n in the set?
abbrev pub has : List ℕ → ℕ → Bool
has ws n = counts ws (n / 64) && eqb (get_or (bits ws) n 0) 1

abbrev pub Member : List ℕ → ℕ → Type 0
Member ws n = has ws n ≡ true

-- a word that counts has a number, so that the head leads to the next one: as a negation, so that it may be a ghost field; `number_of` below
-- gives the number
pub record NumberSet (ws : List ℕ) : Type 0 where
  pub size : length ws ≡ 65
  pub some : (q : ℕ) → q < 64 → counts ws q ≡ true → ¬ ((n : ℕ) → n / 64 ≡ q → has ws n ≡ false)

-- there is no number in it
pub record Emptied (ws : List ℕ) : Type 0 where
  pub is_set : NumberSet ws
  pub none : (k : ℕ) → has ws k ≡ false

-- n is put in, and all other numbers stay in or out
pub record PutsNumber (ws ws' : List ℕ) (n : ℕ) : Type 0 where
  pub is_set : NumberSet ws'
  pub here : Member ws' n
  pub other : (k : ℕ) → ¬ (k ≡ n) → has ws' k ≡ has ws k

-- r is the first number at or after `from`, or `to` where none comes before that
pub record NextNumber (ws : List ℕ) (from to r : ℕ) : Type 0 where
  pub after : from ≤ r
  pub within : r ≤ to
  pub before : (k : ℕ) → from ≤ k → k < r → has ws k ≡ false
  pub here : r < to → Member ws r

-- the same of a number that may be none
abbrev pub NextOf : List ℕ → (from to : ℕ) → Option ℕ → Type 0
NextOf ws from to None = NextNumber ws from to to
NextOf ws from to (Some r) = (r < to) × NextNumber ws from to r

-- the word of n, shifted so that the bit of n comes first
abbrev pub rest_of : List ℕ → ℕ → ℕ
rest_of ws n = (get_or ws (n / 64) 0 * 2 ^ (n % 64)) % 2 ^ 64

-- the first number at or after `from`, or 4,096, and the rest of its word
pub record NextAndRest (ws : List ℕ) (from at rest : ℕ) : Type 0 where
  pub first : NextNumber ws from 4096 at
  pub left : at < 4096 → rest ≡ rest_of ws at

-- the same of a number that may be none
abbrev pub NextAndRestOf : List ℕ → ℕ → Option NumberAndRest → Type 0
NextAndRestOf ws from None = NextNumber ws from 4096 4096
NextAndRestOf ws from (Some s) = (s.at < 4096) × NextAndRest ws from s.at s.rest

-- those of n numbers from k on that are in the set, ascending
unfoldable pub members : List ℕ → (n k : ℕ) → List ℕ
members ws zero k = []
members ws (suc n) k = cond (has ws k) (k ∷ members ws n (suc k)) (members ws n (suc k))

-- from a number on, all that are in the set; none from no number on
abbrev pub members_on : List ℕ → Option NumberAndRest → List ℕ
members_on ws None = []
members_on ws (Some s) = members ws (4096 - s.at) s.at

-- a number of the set, and the rest of its word
pub record IsNext (ws : List ℕ) (s : NumberAndRest) : Type 0 where
  pub low : s.at < 4096
  pub member : Member ws s.at
  pub rest : s.rest ≡ rest_of ws s.at

-- no number of a set is above 4,095: its head has 64 bits
pub none_above : (ws : List ℕ) → length ws ≡ 65 → (k : ℕ) → 4096 ≤ k → has ws k ≡ false
none_above ws e k h = ap (λ (x : ℕ). eqb x 1 && eqb (get_or (bits ws) k 0) 1) (get_or-eq_default (bits ws) 0 (omega (arith, length_bits ws, e)))

-- a word that counts has a number: one of its 64
module _ (ws : List ℕ) (q : ℕ) where
  number_or_none : (m : ℕ) → m ≤ 64 → ((n : ℕ) × (n / 64 ≡ q) × Member ws n) ⊎ ((n : ℕ) → q * 64 ≤ n → n < q * 64 + m → has ws n ≡ false)
  number_or_none zero h = inr (λ n a b. absurd (omega arith))
  number_or_none (suc m) h = go (number_or_none m (omega arith)) (has ws (q * 64 + m)) refl
    where
      go : ((n : ℕ) × (n / 64 ≡ q) × Member ws n) ⊎ ((n : ℕ) → q * 64 ≤ n → n < q * 64 + m → has ws n ≡ false) → (b : Bool) → has ws (q * 64 + m) ≡ b
          → ((n : ℕ) × (n / 64 ≡ q) × Member ws n) ⊎ ((n : ℕ) → q * 64 ≤ n → n < q * 64 + suc m → has ws n ≡ false)
      go (inl x) b e = inl x
      go (inr f) true e = inl (q * 64 + m, omega arith, e)
      go (inr f) false e = inr (λ n a c. last n a c (ℕ_discrete n (q * 64 + m)))
        where
          last : (n : ℕ) → q * 64 ≤ n → n < q * 64 + suc m → Dec (n ≡ q * 64 + m) → has ws n ≡ false
          last n a c (yes d) = ap (has ws) d ∙ e
          last n a c (no d) = f n a (omega arith)

  pub number_of : NumberSet ws → q < 64 → counts ws q ≡ true → (n : ℕ) × (n / 64 ≡ q) × Member ws n
  number_of s h c = go (number_or_none 64 (omega arith))
    where
      go : ((n : ℕ) × (n / 64 ≡ q) × Member ws n) ⊎ ((n : ℕ) → q * 64 ≤ n → n < q * 64 + 64 → has ws n ≡ false) → (n : ℕ) × (n / 64 ≡ q) × Member ws n
      go (inl x) = x
      go (inr f) = absurd (s.some q h c (λ n e. f n (omega arith) (omega arith)))
