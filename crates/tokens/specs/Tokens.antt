-- The tokens of a text: blanks and comments, words, names in quotes. Each is read from what is left of the text.
use Rattle.std.specs.Prelude.{List, [], ◌∷◌, ℕ, eqb}
use Rattle.deciding.specs.Deciding.{pick}
use Rattle.tokens.specs.Bytes.{is_word_byte, is_blank_byte, is_escaped_byte, head, tail}

-- What is left after space, tab, newline and comments. A comment goes from % to the line's end.
unfoldable mutual
  pub skip : List ℕ → List ℕ
  skip [] = []
  skip (byte ∷ bytes) = pick (is_blank_byte byte) (skip bytes) (pick (eqb byte 37) (comment bytes) (byte ∷ bytes))

  pub comment : List ℕ → List ℕ
  comment [] = []
  comment (byte ∷ bytes) = pick (eqb byte 10) (skip bytes) (comment bytes)

-- A token that was read: its bytes, and what is left after it. With fault 20 what is left begins at the byte, or is the end,
-- where no token can go on.
pub record Got : Type 0 where
  pub fault : ℕ
  pub bytes : List ℕ
  pub rest : List ℕ

abbrev pub got : (fault : ℕ) → (bytes rest : List ℕ) → Got
got fault bytes rest = record { fault = fault; bytes = bytes; rest = rest }

abbrev pub more : ℕ → Got → Got
more byte token = got token.fault (byte ∷ token.bytes) token.rest

-- A word.
unfoldable pub bare : List ℕ → Got
bare [] = got 0 [] []
bare (byte ∷ bytes) = pick (is_word_byte byte) (more byte (bare bytes)) (got 0 [] (byte ∷ bytes))

-- A name after its opening quote, and after a backslash in it.
unfoldable mutual
  pub quoted : List ℕ → Got
  quoted [] = got 20 [] []
  quoted (byte ∷ bytes) = pick (eqb byte 39) (got 0 [] bytes) (pick (eqb byte 92) (escaped bytes) (more byte (quoted bytes)))

  pub escaped : List ℕ → Got
  escaped [] = got 20 [] []
  escaped (byte ∷ bytes) = pick (is_escaped_byte byte) (more byte (quoted bytes)) (got 20 [] (byte ∷ bytes))

-- A word or a name in quotes.
unfoldable pub token : List ℕ → Got
token text = pick (eqb (head text) 39) (quoted (tail text)) (bare text)
