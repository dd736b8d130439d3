-- Laws of tokens: blanks and comments are looked past whatever they are, and a lower word in quotes is the bare word.
use Rattle.std.specs.Prelude.{◌≡◌, refl, List, [], ◌∷◌, ◌++◌, Bool, true, false, ℕ, eqb}
use Rattle.std.proofs.Common.{ap, ◌∙◌, ne_eqb}
use Rattle.deciding.specs.Deciding.{pick, true_not_false}
use Rattle.tokens.specs.Bytes.{either, within, is_word_byte, is_blank_byte, is_lower_byte, head}
use Rattle.tokens.specs.Tokens.{skip, comment, got, bare, quoted, token}

-- A row of blanks and of whole comments, each with the newline that ends it. `inside`: a comment is open.
pub data Gap : (inside : Bool) → List ℕ → Type 0 where
  none : Gap false []
  blank : {byte : ℕ} {gap : List ℕ} → is_blank_byte byte ≡ true → Gap false gap → Gap false (byte ∷ gap)
  opens : {gap : List ℕ} → Gap true gap → Gap false (37 ∷ gap)
  remark : {byte : ℕ} {gap : List ℕ} → (byte ≡ 10 → ⊥) → Gap true gap → Gap true (byte ∷ gap)
  ends : {gap : List ℕ} → Gap false gap → Gap true (10 ∷ gap)

abbrev pub skip_in : (inside : Bool) → List ℕ → List ℕ
skip_in inside text = pick inside (comment text) (skip text)

skip_gap_in : {inside : Bool} {gap : List ℕ} → Gap inside gap → (text : List ℕ) → skip_in inside (gap ++ text) ≡ skip text
unfolding skip comment either
skip_gap_in none text = refl
skip_gap_in (blank b g) text = rw b (skip_gap_in g text)
skip_gap_in (opens g) text = skip_gap_in g text
skip_gap_in (remark {byte} d g) text = rw (ne_eqb byte 10 d) (skip_gap_in g text)
skip_gap_in (ends g) text = skip_gap_in g text

-- So a gap in front of a token changes nothing: every token but the first of a text is looked for past a gap.
pub skip_gap : {gap : List ℕ} → Gap false gap → (text : List ℕ) → skip (gap ++ text) ≡ skip text
skip_gap g text = skip_gap_in g text

-- A lower word.
pub data Word : List ℕ → Type 0 where
  end : Word []
  letter : {byte : ℕ} {word : List ℕ} → is_word_byte byte ≡ true → Word word → Word (byte ∷ word)

-- No byte of a word is a quote or a backslash.
word_plain : (byte k : ℕ) → is_word_byte byte ≡ true → is_word_byte k ≡ false → eqb byte k ≡ false
word_plain byte k w d = ne_eqb byte k (λ e. true_not_false w (ap is_word_byte e ∙ d))

bare_word : {word : List ℕ} → Word word → (rest : List ℕ) → is_word_byte (head rest) ≡ false → bare (word ++ rest) ≡ got 0 word rest
unfolding bare
bare_word end [] d = refl
bare_word end (x ∷ rest) d = rw d
bare_word (letter w l) rest d = rw (w, bare_word l rest d)

quoted_word : {word : List ℕ} → Word word → (rest : List ℕ) → quoted (word ++ 39 ∷ rest) ≡ got 0 word rest
unfolding quoted either within
quoted_word end rest = refl
quoted_word (letter {byte} w l) rest = rw (word_plain byte 39 w refl, word_plain byte 92 w refl, quoted_word l rest)

-- The word in quotes is read as the bare word: the same bytes, and the same is left.
pub quotes_alike : (byte : ℕ) (word : List ℕ) → is_lower_byte byte ≡ true → Word (byte ∷ word) → (rest : List ℕ) → is_word_byte (head rest) ≡ false
    → token (39 ∷ (byte ∷ word) ++ 39 ∷ rest) ≡ token ((byte ∷ word) ++ rest)
unfolding token within
quotes_alike byte word b w rest d =
    let plain : eqb byte 39 ≡ false = ne_eqb byte 39 (λ e. true_not_false b (ap is_lower_byte e)) in
    rw (quoted_word w rest, plain, bare_word w rest d)
