-- Laws of places: what is left from one on, its first byte, and what is left after that.
use Rattle.std.specs.Prelude.{◌≡◌, refl, List, [], ◌∷◌, ℕ, ◌+◌, ◌-◌, ◌≤◌, ◌<◌, length, get_or, drop}
use Rattle.std.proofs.Common.{sym, ap, add-one, arith, drop_of_length-le, length-drop, drop-cons}
use Rattle.std.proofs.Math.Decide.{dec_lt}
use Rattle.tokens.specs.Bytes.{head, tail}
use Rattle.tokens.specs.Places.{LeftFrom}

pub here : (text : List ℕ) (place : ℕ) → place ≤ length text → LeftFrom text (drop place text) place
here text place l = record { rest_is = refl; within = l }

pub ends : (text : List ℕ) (i : ℕ) → length text ≤ i → drop i text ≡ []
ends text i l = drop_of_length-le text l

pub begins_with : (text : List ℕ) (i : ℕ) → i < length text → drop i text ≡ get_or text i 0 ∷ drop (i + 1) text
begins_with text i l = rw (add-one, drop-cons text i 0 l)

-- A byte that isn't 0 stands within the text.
pub head_in : (text : List ℕ) (i : ℕ) → 0 < head (drop i text) → i < length text
head_in text i h = go (dec_lt i (length text))
  where
    go : Dec (i < length text) → i < length text
    go (yes l) = l
    go (no l) = absurd (omega (arith, ap head (ends text i (omega arith))))

pub past_head : (text : List ℕ) (i : ℕ) → i < length text → LeftFrom text (tail (drop i text)) (i + 1)
past_head text i l = record { rest_is = sym (ap tail (begins_with text i l)); within = omega arith }

-- The place of what is left.
pub place_is : {text rest : List ℕ} {place : ℕ} → LeftFrom text rest place → place ≡ length text - length rest
place_is {text} {rest} {place} l = let size = ap length l.rest_is in omega (arith, length-drop place text, l.within)
