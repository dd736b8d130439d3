-- The word of a variable in a text, and the place of a word among those known.
use mathlib.Core.Path.{◌≡◌, refl, sym, ap, ◌∙◌}
use mathlib.Core.List.{List, [], ◌∷◌, ◌++◌, map}
use mathlib.Core.Bool.{Bool, true, false, not, cond, ◌&&◌}
use Prim.Native.Nat.{ℕ, suc, ◌+◌, ◌-◌, ◌≤◌, ◌<◌}
use native.Mathlib.Omega.{arith}
use lib.Dec.{eqb, ltb}
use native.Mathlib.Numerals.{add-one}
use lib.ListN.{length, take, drop, set, length-append, length-drop}
use lib.Seq.{take-suc-set, take-append_seam}
use Rattle.std.proofs.Common.{length-take-le}
use Rattle.std.proofs.lemmas.List.{length-map, map-append}
use Rattle.std.specs.Prelude.{Some, None, unwrap_or}
use Rattle.std.specs.Str.{bytes_eq}
use Rattle.std.specs.List.{position_or_len}
use Rattle.std.proofs.Common.{ltb-false}
use Rattle.std.proofs.lemmas.List.Recursion.{is_position_or_len}
use Rattle.std.proofs.lemmas.List.Sums.{prefix_len-le-length}
use Rattle.deciding.specs.Deciding.{pick}
use Rattle.names.specs.Table.{same, slot_in}
use Rattle.tokens.specs.Bytes.{is_upper_byte, is_word_byte, head}
use Rattle.tokens.specs.Tokens.{Got, more, got, bare, token}
use Rattle.tokens.specs.Places.{LeftFrom}
use Rattle.tokens.specs.Ahead.{place_is}
use Rattle.text.proofs.Beginning.{upper_bare}
use denote.Ref.{Bor}

-- A word, and what is left behind it.
abbrev whole : Got → List ℕ
whole w = w.bytes ++ w.rest

bare_whole : (text : List ℕ) → whole (bare text) ≡ text
unfolding bare
bare_whole [] = refl
bare_whole (byte ∷ bytes) = go (is_word_byte byte) (bare_whole bytes)
  where
    go : (b : Bool) → whole (bare bytes) ≡ bytes → whole (pick b (more byte (bare bytes)) (got 0 [] (byte ∷ bytes))) ≡ byte ∷ bytes
    go true h = ap (λ (x : List ℕ). byte ∷ x) h
    go false h = refl

-- What is left behind an upper token is what is left behind its word.
module _ (text : List ℕ) (at after : ℕ) where
  pub upper_left : is_upper_byte (head (drop at text)) ≡ true → LeftFrom text (token (drop at text)).rest after
      → LeftFrom text (bare (drop at text)).rest after
  upper_left u left = rw (upper_bare (drop at text) u) at left

  -- A word ends where the rest begins, and its bytes are those up to there.
  module _ (l : at ≤ length text) (left : LeftFrom text (bare (drop at text)).rest after) where
    pub word_ends : at + length (bare (drop at text)).bytes ≡ after
    word_ends =
        let word = bare (drop at text) in
        let size : length word.bytes + length word.rest ≡ length (drop at text) =
        sym (length-append word.bytes word.rest) ∙ ap length (bare_whole (drop at text)) in
        omega (arith, length-drop at text, place_is left, left.within)

    pub word_is : take (after - at) (drop at text) ≡ (bare (drop at text)).bytes
    word_is =
        let word = bare (drop at text) in
        let size : after - at ≡ length word.bytes = let e = word_ends in omega arith in
        rw size (ap (take (length word.bytes)) (sym (bare_whole (drop at text))) ∙ take-append_seam word.bytes word.rest)

-- What `position` gives, or the length.
pub or_length : {A : Type 0} (test : A → Bool) (xs : List A) (n : ℕ) → length xs ≡ n
    → unwrap_or (cond (ltb (position_or_len test xs) (length xs)) (Some (position_or_len test xs)) None) n ≡ position_or_len test xs
or_length test xs n many = go (ltb (position_or_len test xs) (length xs)) refl
  where
    go : (b : Bool) → ltb (position_or_len test xs) (length xs) ≡ b → unwrap_or (cond b (Some (position_or_len test xs)) None) n ≡ position_or_len test xs
    go true e = refl
    go false e =
        let l = ltb-false (position_or_len test xs) (length xs) e in
        let m = prefix_len-le-length (λ x. not (test x)) xs in
        omega arith

-- Two words are the same where they are equal byte by byte.
same_bytes : (a b : List ℕ) → same a b ≡ bytes_eq a b
unfolding same
same_bytes [] [] = refl
same_bytes [] (y ∷ b) = refl
same_bytes (x ∷ a) [] = refl
same_bytes (x ∷ a) (y ∷ b) = go (eqb x y) (same_bytes a b)
  where
    go : (e : Bool) → same a b ≡ bytes_eq a b → pick e (same a b) false ≡ (e && bytes_eq a b)
    go true h = h
    go false h = refl

-- The slot of a word is its position.
pub slot_is : (word : List ℕ) (known : List (Bor (List ℕ))) → slot_in (map (λ w. w.now) known) word ≡ position_or_len (λ w. bytes_eq w.now word) known
unfolding slot_in
slot_is word known = is_position_or_len (λ x. slot_in (map (λ w. w.now) x) word) (λ w. bytes_eq w.now word) refl step known
  where
    step : (w : Bor (List ℕ)) (ws : List (Bor (List ℕ)))
        → slot_in (map (λ w. w.now) (w ∷ ws)) word ≡ cond (bytes_eq w.now word) 0 (1 + slot_in (map (λ w. w.now) ws) word)
    step w ws = rw (same_bytes w.now word) (go (bytes_eq w.now word))
      where
        go : (b : Bool) → pick b 0 (suc (slot_in (map (λ w. w.now) ws) word)) ≡ cond b 0 (1 + slot_in (map (λ w. w.now) ws) word)
        go true = refl
        go false = omega arith

-- As many words are known, and one more is behind them.
pub known_many : (words : List (Bor (List ℕ))) (known : ℕ) → known ≤ length words → length (map (λ w. w.now) (take known words)) ≡ known
known_many words known l = length-map (take known words) (λ w. w.now) ∙ length-take-le known words l

pub known_more : (words : List (Bor (List ℕ))) (known : ℕ) (word : Bor (List ℕ)) → known < length words
    → map (λ w. w.now) (take (known + 1) (set words known word)) ≡ map (λ w. w.now) (take known words) ++ word.now ∷ []
known_more words known word l = rw (add-one, take-suc-set words known word l) (map-append (λ w. w.now) (take known words) (word ∷ []))
