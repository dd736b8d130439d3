-- The way that the check has come down: the row of a node, read backwards, and the two arrays that keep it.
use Rattle.std.specs.Prelude.{◌≡◌, ℕ, suc, ◌+◌, ◌-◌, ◌*◌, ◌/◌, ◌%◌, ◌≤◌, ltb, length, get_or}
use mathlib.Core.List.{List, [], ◌∷◌, Memᴰ}
use Rattle.deciding.specs.Deciding.{pick}

-- the subterms still wanted behind a row, which is read backwards; a cell of a blank form has its arity in the 3 bits after its first
abbrev pub wants : List ℕ → ℕ
wants [] = 1
wants (c ∷ p) = (c / 4096 % 8 + wants p) - 1

-- how many blanks a row has
abbrev pub blanks : List ℕ → ℕ
blanks [] = 0
blanks (c ∷ r) = c / 32768 + blanks r

-- both counts in one word
abbrev pub counts : List ℕ → ℕ
counts r = blanks r * 65536 + wants r

-- a cell of the most general term of a form: its blanks are the variables 0, 1, 2 ..
abbrev pub numbered : (c known : ℕ) → ℕ
numbered c known = pick (ltb c 32768) c (c + known)

-- the last four cells of the most general term, as a record has them
abbrev pub word_of : List ℕ → ℕ
word_of [] = 0
word_of (c ∷ r) = word_of r % 281474976710656 * 65536 + numbered c (blanks r)

-- two arrays have these of each beginning of the way, and each wants something that comes next
pub data Kept (way ks : List ℕ) : List ℕ → Type 0 where
  none : get_or way 0 0 ≡ 0 → get_or ks 0 0 ≡ 1 → Kept way ks []
  more : {c : ℕ} {r : List ℕ} → get_or way (suc (length r)) 0 ≡ word_of (c ∷ r) → get_or ks (suc (length r)) 0 ≡ counts (c ∷ r) → ¬ (wants r ≡ 0)
      → Kept way ks r → Kept way ks (c ∷ r)

-- its cells are those of a blank form
abbrev pub Low : List ℕ → Type 0
Low r = (c : ℕ) → Memᴰ c r → c ≤ 32768
