-- One byte of a gap, of a comment, of a word, of a name in quotes.
use mathlib.Core.Path.{◌≡◌, refl, sym, ap, subst, ◌∙◌}
use mathlib.Core.List.{List, [], ◌∷◌, ◌++◌, append_assoc, append-nil}
use Rattle.std.specs.Prelude.{Bool, true, false, not, Result, eqb}
use Prim.Native.Nat.{ℕ, ◌+◌, ◌≤◌, ◌<◌}
use native.Mathlib.Numerals.{add-one}
use native.Mathlib.Omega.{arith}
use lib.ListN.{length, get_or, drop, take, set, length-append}
use lib.Seq.{take-suc-set, take_all, take-append-le, take-nil}
use borrow.Author.Tests.{eq-eqb, ne_eqb}
use Rattle.deciding.specs.Deciding.{pick}
use Rattle.tokens.specs.Bytes.{either, is_word_byte, is_blank_byte, is_escaped_byte, head, tail}
use Rattle.tokens.specs.Tokens.{skip, comment, Got, got, more, bare, quoted, escaped, token}
use Rattle.tokens.specs.Places.{Broken, Ended, Keeps, fault_of, place_of, ended, TokenEnds}
use Rattle.tokens.specs.Ahead.{here, ends, begins_with, head_in}

-- One byte of a gap.
module _ (text : List ℕ) (i : ℕ) (l : i < length text) where
  pub comment_newline : get_or text i 0 ≡ 10 → skip (drop i text) ≡ comment (drop i text)
  unfolding skip comment either
  comment_newline e = rw (begins_with text i l, e)

  pub comment_on : (get_or text i 0 ≡ 10 → ⊥) → comment (drop (i + 1) text) ≡ comment (drop i text)
  unfolding comment
  comment_on d = rw (begins_with text i l, ne_eqb _ _ d)

  pub gap_blank : true ≡ is_blank_byte (get_or text i 0) → skip (drop (i + 1) text) ≡ skip (drop i text)
  unfolding skip
  gap_blank e = rw (begins_with text i l, ← e)

  pub gap_comment : get_or text i 0 ≡ 37 → comment (drop (i + 1) text) ≡ skip (drop i text)
  unfolding skip either
  gap_comment e = rw (begins_with text i l, e)

  pub gap_stop : false ≡ is_blank_byte (get_or text i 0) → (get_or text i 0 ≡ 37 → ⊥) → drop i text ≡ skip (drop i text)
  unfolding skip
  gap_stop e d = rw (begins_with text i l, ← e, ne_eqb _ _ d)

-- At the end.
module _ (text : List ℕ) (i : ℕ) (l : length text ≤ i) where
  pub comment_over : skip (drop i text) ≡ comment (drop i text)
  unfolding skip comment
  comment_over = rw (ends text i l)

  pub gap_over : drop i text ≡ skip (drop i text)
  unfolding skip
  gap_over = rw (ends text i l)

-- One byte more in the buffer.
pub put_room : (buffer : List ℕ) (n byte : ℕ) (bytes : List ℕ) → length buffer ≡ 32 → n < 32 → Keeps buffer n bytes
    → Keeps (set buffer n byte) (n + 1) (bytes ++ byte ∷ [])
put_room buffer n byte bytes l h k =
    let size : length bytes ≡ n = omega (arith, k.size_is) in
    let more : length (bytes ++ byte ∷ []) ≡ n + 1 = length-append bytes (byte ∷ []) ∙ omega arith in
    let same : take n buffer ≡ bytes = k.bytes_are ∙ take_all 32 bytes (omega arith) in
    record {
      size_is = omega arith;
      bytes_are = rw add-one (take-suc-set buffer n byte (omega arith)) ∙ ap (λ (x : List ℕ). x ++ byte ∷ []) same ∙ sym (take_all 32 (bytes ++ byte ∷ []) (omega arith));
    }

pub put_full : (buffer : List ℕ) (n byte : ℕ) (bytes : List ℕ) → 32 ≤ n → Keeps buffer n bytes → Keeps buffer n (bytes ++ byte ∷ [])
put_full buffer n byte bytes h k =
    let long : 32 ≤ length bytes = omega (arith, k.size_is) in
    record {
      size_is = omega (arith, k.size_is, length-append bytes (byte ∷ []));
      bytes_are = k.bytes_are ∙ sym (take-append-le 32 bytes (byte ∷ []) long);
    }

-- The bytes before those of a token's reading.
abbrev prepend : List ℕ → Got → Got
prepend bytes token = got token.fault (bytes ++ token.bytes) token.rest

-- A token is read up to a place: its bytes so far are in the buffer, and the rest is read from there on.
pub record Going (all rest : Got) (buffer : List ℕ) (size : ℕ) : Type 0 where
  pub so_far : List ℕ
  pub whole : all ≡ prepend so_far rest
  pub keeps : Keeps buffer size so_far

pub going_start : (all : Got) (buffer : List ℕ) → Going all all buffer 0
going_start all buffer = record { so_far = []; whole = refl; keeps = record { size_is = refl; bytes_are = sym (take-nil 32) } }

module _ {all rest : Got} {buffer : List ℕ} {size : ℕ} (g : Going all rest buffer size) where
  -- One byte more.
  pub going_on : (byte : ℕ) (rest' : Got) (buffer' : List ℕ) (size' : ℕ) → rest ≡ more byte rest'
      → ((bytes : List ℕ) → Keeps buffer size bytes → Keeps buffer' size' (bytes ++ byte ∷ [])) → Going all rest' buffer' size'
  going_on byte rest' buffer' size' e k = record {
    so_far = g.so_far ++ byte ∷ [];
    whole = g.whole ∙ ap (prepend g.so_far) e ∙ ap (λ (x : List ℕ). got rest'.fault x rest'.rest) (sym (append_assoc g.so_far (byte ∷ []) rest'.bytes));
    keeps = k g.so_far g.keeps;
  }

  -- A backslash, which isn't kept.
  pub going_same : (rest' : Got) → rest ≡ rest' → Going all rest' buffer size
  going_same rest' e = record { so_far = g.so_far; whole = g.whole ∙ ap (prepend g.so_far) e; keeps = g.keeps }

  -- The token's end, or a fault.
  pub going_ends : (text : List ℕ) (end : Result ℕ Broken) → rest ≡ got (fault_of end) [] (drop (place_of end) text) → place_of end ≤ length text
      → TokenEnds text buffer all (ended size end)
  going_ends text end e l =
      let left : List ℕ = drop (place_of end) text in
      let done : all ≡ got (fault_of end) g.so_far left = g.whole ∙ ap (prepend g.so_far) e ∙ ap (λ (x : List ℕ). got (fault_of end) x left) (append-nil g.so_far) in
      subst (λ (x : Got). TokenEnds text buffer x (ended size end)) (sym done) (record { fault_is = refl; left = here text (place_of end) l; keeps = g.keeps })

-- What a byte of a word or of a name in quotes does, in the form in which the code has it.
abbrev pub quoted_in : (after_slash : Bool) → List ℕ → Got
quoted_in after_slash text = pick after_slash (escaped text) (quoted text)

module _ (text : List ℕ) (i : ℕ) (l : i < length text) where
  pub bare_on : true ≡ is_word_byte (get_or text i 0) → bare (drop i text) ≡ more (get_or text i 0) (bare (drop (i + 1) text))
  unfolding bare
  bare_on e = rw (begins_with text i l, ← e)

  pub bare_stop : false ≡ is_word_byte (get_or text i 0) → bare (drop i text) ≡ got 0 [] (drop i text)
  unfolding bare
  bare_stop e = rw (begins_with text i l, ← e)

  pub quoted_stop : get_or text i 0 ≡ 39 → quoted (drop i text) ≡ got 0 [] (drop (i + 1) text)
  unfolding quoted
  quoted_stop e = rw (begins_with text i l, e)

  pub quoted_on : (get_or text i 0 ≡ 39 → ⊥) → (get_or text i 0 ≡ 92 → ⊥) → quoted (drop i text) ≡ more (get_or text i 0) (quoted (drop (i + 1) text))
  unfolding quoted
  quoted_on d e = rw (begins_with text i l, ne_eqb _ _ d, ne_eqb _ _ e)

  pub quoted_slash : get_or text i 0 ≡ 92 → quoted (drop i text) ≡ escaped (drop (i + 1) text)
  unfolding quoted
  quoted_slash e = rw (begins_with text i l, e)

  pub escaped_on : true ≡ is_escaped_byte (get_or text i 0) → escaped (drop i text) ≡ more (get_or text i 0) (quoted (drop (i + 1) text))
  unfolding escaped
  escaped_on e = rw (begins_with text i l, ← e)

  pub escaped_stop : false ≡ is_escaped_byte (get_or text i 0) → escaped (drop i text) ≡ got 20 [] (drop i text)
  unfolding escaped
  escaped_stop e = rw (begins_with text i l, ← e)

-- At the end a word ends, and a name in quotes is broken.
pub bare_over : (text : List ℕ) (i : ℕ) → length text ≤ i → bare (drop i text) ≡ got 0 [] (drop (length text) text)
unfolding bare
bare_over text i l = rw (ends text i l, ends text (length text) (omega arith))

pub quoted_over : (text : List ℕ) (i : ℕ) (after_slash : Bool) → length text ≤ i → quoted_in after_slash (drop i text) ≡ got 20 [] (drop (length text) text)
unfolding quoted escaped
quoted_over text i true l = rw (ends text i l, ends text (length text) (omega arith))
quoted_over text i false l = rw (ends text i l, ends text (length text) (omega arith))

pub token_quoted : (text : List ℕ) (i : ℕ) → head (drop i text) ≡ 39 → token (drop i text) ≡ quoted (drop (i + 1) text)
unfolding token
token_quoted text i e = let b = begins_with text i (head_in text i (omega arith)) in rw (eq-eqb (head (drop i text)) 39 e) (ap (λ (x : List ℕ). quoted (tail x)) b)

pub token_bare : (text : List ℕ) → (head text ≡ 39 → ⊥) → token text ≡ bare text
unfolding token
token_bare text d = rw (ne_eqb (head text) 39 d)

-- A token's bytes are in the buffer that was lent.
pub in_buffer : {text kept buffer : List ℕ} {token : Got} {ended : Ended} → TokenEnds text kept token ended → buffer ≡ kept → TokenEnds text buffer token ended
in_buffer t e = rw e t
