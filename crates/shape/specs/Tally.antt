-- How many numbers below a bound pass a test: of nodes, how many are used; of bits, how many are set
use Rattle.std.specs.Prelude.{List, Bool, true, false, ℕ, zero, suc, ◌+◌, eqb, get_or}
use Rattle.bits.specs.Packed.{bits}

abbrev pub bit : Bool → ℕ
bit true = 1
bit false = 0

unfoldable pub tally : (ℕ → Bool) → ℕ → ℕ
tally u zero = 0
tally u (suc k) = bit (u k) + tally u k

-- the bit n of a map is set
abbrev pub marked : List ℕ → ℕ → Bool
marked map n = eqb (get_or (bits map) n 0) 1
