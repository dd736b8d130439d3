-- Which bytes make a word, and which are blank.
use Rattle.std.specs.Prelude.{List, [], ◌∷◌, Bool, true, false, ℕ, leb, eqb}
use Rattle.deciding.specs.Deciding.{pick}

unfoldable pub either : Bool → Bool → Bool
either a b = pick a true b

unfoldable pub within : (low high byte : ℕ) → Bool
within low high byte = pick (leb low byte) (leb byte high) false

-- a to z, A to Z, 0 to 9.
abbrev pub is_lower_byte : ℕ → Bool
is_lower_byte byte = within 97 122 byte

abbrev pub is_upper_byte : ℕ → Bool
is_upper_byte byte = within 65 90 byte

abbrev pub is_digit_byte : ℕ → Bool
is_digit_byte byte = within 48 57 byte

-- A word goes on over letters, digits and _.
abbrev pub is_word_byte : ℕ → Bool
is_word_byte byte = either (is_lower_byte byte) (either (is_upper_byte byte) (either (is_digit_byte byte) (eqb byte 95)))

-- Space, tab, newline.
abbrev pub is_blank_byte : ℕ → Bool
is_blank_byte byte = either (eqb byte 32) (either (eqb byte 9) (eqb byte 10))

-- A token begins: a lower word, an upper word or a name in quotes.
abbrev pub begins : ℕ → Bool
begins byte = either (is_lower_byte byte) (either (is_upper_byte byte) (eqb byte 39))

-- A backslash may stand before a quote or a backslash.
abbrev pub is_escaped_byte : ℕ → Bool
is_escaped_byte byte = either (eqb byte 39) (eqb byte 92)

-- The first byte of what is left of a text, 0 at the end; and what is left after it.
abbrev pub head : List ℕ → ℕ
head [] = 0
head (byte ∷ bytes) = byte

abbrev pub tail : List ℕ → List ℕ
tail [] = []
tail (byte ∷ bytes) = bytes
