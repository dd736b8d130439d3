-- Texts that give the same cells: blanks and comments between tokens change nothing but places, and a lower word may stand in
-- quotes.
use Rattle.std.specs.Prelude.{◌≡◌, refl, List, [], ◌∷◌, ◌++◌, Bool, true, false, ℕ, suc, ◌+◌, ◌≤◌, eqb, leb, ltb, length}
use Rattle.std.proofs.Common.{sym, subst, ◌∙◌, arith}
use Rattle.std.proofs.Math.Path.{ap}
use borrow.Author.Tests.{ne_eqb, leb-true, le-leb, lt-leb}
use Rattle.deciding.specs.Deciding.{pick, true_not_false}
use Rattle.tokens.specs.Bytes.{either, within, is_lower_byte, is_upper_byte, is_word_byte, begins, head}
use Rattle.tokens.specs.Tokens.{skip, got}
use Rattle.tokens.specs.Laws.{Gap, skip_gap, Word, quotes_alike}
use Rattle.text.specs.Term.{name_start, start_of, after_of, Read, term, arguments}
use Rattle.text.specs.Naming.{TokenCells, naming}
use Rattle.text.specs.Text.{Answer, term_of, read_text}
use Rattle.typed.specs.Twice.{picked}

-- The same answer but for the place.
pub record Alike (a b : Answer) : Type 0 where
  pub refusal : a.refusal ≡ b.refusal
  pub size : a.size ≡ b.size
  pub cells : a.cells ≡ b.cells
  pub names : a.names ≡ b.names

pub alike : (names : List (List ℕ)) (free : ℕ) (text other : List ℕ) → term_of text ≡ term_of other → Alike (read_text names free text) (read_text names free other)
unfolding read_text
alike names free text other e =
    subst (λ (r : Read). Alike (read_text names free text) (picked names free other r (naming names [] r.tokens) (eqb (naming names [] r.tokens).refusal 0) (eqb r.fault 0)
    (ltb (length names + free) (length (naming names [] r.tokens).names)))) e
    (go (term_of text) (naming names [] (term_of text).tokens) (eqb (naming names [] (term_of text).tokens).refusal 0) (eqb (term_of text).fault 0)
    (ltb (length names + free) (length (naming names [] (term_of text).tokens).names)))
  where
    go : (r : Read) (n : TokenCells) (a b c : Bool) → Alike (picked names free text r n a b c) (picked names free other r n a b c)
    go r n true true true = record { refusal = refl; size = refl; cells = refl; names = refl }
    go r n true true false = record { refusal = refl; size = refl; cells = refl; names = refl }
    go r n true false c = record { refusal = refl; size = refl; cells = refl; names = refl }
    go r n false b c = record { refusal = refl; size = refl; cells = refl; names = refl }

-- A gap in front of the text; before an argument; after one; and between a name and its bracket.
module _ {gap : List ℕ} (g : Gap false gap) (text : List ℕ) where
  pub gap_first : (names : List (List ℕ)) (free : ℕ) → Alike (read_text names free (gap ++ text)) (read_text names free text)
  gap_first names free = alike names free (gap ++ text) text (ap (term 66 0 32) (skip_gap g text))

  pub gap_before : (steps count left : ℕ) → arguments (suc steps) count left (gap ++ text) ≡ arguments (suc steps) count left text
  unfolding arguments
  gap_before steps count left = rw (skip_gap g text)

  pub gap_after : after_of 0 (gap ++ text) ≡ after_of 0 text
  unfolding after_of
  gap_after = rw (skip_gap g text)

  pub gap_bracket : (bytes : List ℕ) → name_start (got 0 bytes (gap ++ 40 ∷ text)) ≡ name_start (got 0 bytes (40 ∷ text))
  unfolding name_start skip either
  gap_bracket bytes = rw (skip_gap g (40 ∷ text))

quote_begins : begins 39 ≡ true
unfolding either within
quote_begins = refl

quote_lower : is_upper_byte 39 ≡ false
unfolding within
quote_lower = refl

-- A lower byte is no upper one and no blank, and begins no comment.
lower_from : (byte : ℕ) → is_lower_byte byte ≡ true → 97 ≤ byte
unfolding within
lower_from byte e = go (leb 97 byte) refl e
  where
    go : (b : Bool) → leb 97 byte ≡ b → pick b (leb byte 122) false ≡ true → 97 ≤ byte
    go true h e = leb-true 97 byte h
    go false h e = absurd (true_not_false e refl)

lower_upper : (byte : ℕ) → is_lower_byte byte ≡ true → is_upper_byte byte ≡ false
unfolding within
lower_upper byte e = let l = lower_from byte e in rw (le-leb 65 byte (omega arith), lt-leb byte 90 (omega arith))

lower_stays : (byte : ℕ) → is_lower_byte byte ≡ true → (text : List ℕ) → skip (byte ∷ text) ≡ byte ∷ text
unfolding skip either
lower_stays byte e text =
    let l = lower_from byte e in
    rw (ne_eqb byte 32 (λ x. omega arith), ne_eqb byte 9 (λ x. omega arith), ne_eqb byte 10 (λ x. omega arith), ne_eqb byte 37 (λ x. omega arith))

-- A lower word in quotes, as a term or as an argument.
module _ (byte : ℕ) (word : List ℕ) (b : is_lower_byte byte ≡ true) (w : Word (byte ∷ word)) (rest : List ℕ) (d : is_word_byte (head rest) ≡ false) where
  abbrev quoted_text : List ℕ
  quoted_text = 39 ∷ (byte ∷ word) ++ 39 ∷ rest

  abbrev bare_text : List ℕ
  bare_text = (byte ∷ word) ++ rest

  lower_begins : begins byte ≡ true
  unfolding either
  lower_begins = rw b

  quotes_start : (argument left : ℕ) → (argument ≡ 8 → ⊥) → (left ≡ 0 → ⊥) → start_of argument left quoted_text ≡ start_of argument left bare_text
  unfolding start_of
  quotes_start argument left few room =
      rw (quote_begins, lower_begins, ne_eqb argument 8 few, ne_eqb left 0 room, quote_lower, lower_upper byte b, quotes_alike byte word b w rest d)

  pub quotes_term : (steps argument left : ℕ) → (argument ≡ 8 → ⊥) → (left ≡ 0 → ⊥) → term (suc steps) argument left quoted_text ≡ term (suc steps) argument left bare_text
  unfolding term
  quotes_term steps argument left few room = rw (quotes_start argument left few room)

  pub quotes_read : (names : List (List ℕ)) (free : ℕ) → Alike (read_text names free quoted_text) (read_text names free bare_text)
  unfolding skip either
  quotes_read names free = alike names free quoted_text bare_text (quotes_term 65 0 32 (λ e. omega arith) (λ e. omega arith) ∙ ap (term 66 0 32) (sym (lower_stays byte b (word ++ rest))))
