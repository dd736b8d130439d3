-- Words of 64 bits read as lists of fields, the most significant first: four of 16 bits, or 64 of one bit
use Rattle.std.specs.Prelude.{◌≡◌, List, [], ◌∷◌, ◌++◌, Option, Some, None, ℕ, zero, suc, ◌*◌, ◌/◌, ◌%◌, ◌^◌, ◌≤◌, ◌<◌, length, get_or}
pub use Rattle.std.specs.List.{sum}

-- the m lowest fields of k bits of a word, the highest of them first
unfoldable pub parts : ℕ → ℕ → ℕ → List ℕ
parts k zero w = []
parts k (suc m) w = w / 2 ^ (m * k) % 2 ^ k ∷ parts k m w

-- the fields of all words in a row
unfoldable pub unpack : ℕ → ℕ → List ℕ → List ℕ
unpack k m [] = []
unpack k m (w ∷ ws) = parts k m w ++ unpack k m ws

abbrev pub fields : List ℕ → List ℕ
fields ws = unpack 16 4 ws

-- a bit is 0 or 1, so that their sum counts the set ones
abbrev pub bits : List ℕ → List ℕ
bits ws = unpack 1 64 ws

-- v does not stand at a place from `from` to before `to`
abbrev pub Skipped : ℕ → List ℕ → ℕ → ℕ → Type 0
Skipped v bs from to = (k : ℕ) → from ≤ k → k < to → ¬ (get_or bs k 0 ≡ v)

-- r is the first place at or after `from` where v stands, or the length where there is none
pub record First (v : ℕ) (bs : List ℕ) (from r : ℕ) : Type 0 where
  pub after : from ≤ r
  pub within : r ≤ length bs
  pub before : Skipped v bs from r
  pub here : r < length bs → get_or bs r 0 ≡ v

-- the same of a place that may be none
abbrev pub FirstOf : ℕ → List ℕ → ℕ → Option ℕ → Type 0
FirstOf v bs from None = First v bs from (length bs)
FirstOf v bs from (Some r) = (r < length bs) × First v bs from r
