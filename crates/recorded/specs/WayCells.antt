-- The way's cells are those of the row, but for the numbers of its blanks.
use Rattle.std.specs.Prelude.{◌≡◌, refl, Bool, true, false, ℕ, suc, ◌+◌, ◌*◌, ◌%◌, ◌≤◌, ◌<◌, ltb, length, get_or}
use Rattle.std.proofs.Common.{sym, ap, ◌∙◌, arith, lt-ltb, le-ltb, get_or-append-add}
use mathlib.Core.List.Memᴰ
use mathlib.Core.List.{List, [], ◌∷◌, ◌++◌, reverse, reverse-cons}
use Rattle.std.proofs.Math.Decide.{ℕ_discrete}
use Rattle.std.proofs.lemmas.List.{length-reverse}
use Rattle.std.proofs.Math.ListN.{get_or-append}
use Rattle.deciding.specs.Deciding.{pick}
use Rattle.book.specs.Memory.{blank_number}
use Rattle.book.specs.Forms.{Side, symbol, variable, side}
use Rattle.recorded.specs.Way.{blanks, numbered, word_of, Kept, none, more, Low}

pub kept_word : {way ks r : List ℕ} → Kept way ks r → get_or way (length r) 0 ≡ word_of r
kept_word (none a b) = a
kept_word (more a b h k) = a

pub blanks_low : (r : List ℕ) → Low r → blanks r ≤ length r
blanks_low [] h = omega arith
blanks_low (c ∷ r) h = let a = blanks_low r (λ d i. h d (Memᴰ.tail i)) in let b = h c (Memᴰ.head refl) in omega arith

pub unnumbered : (c k : ℕ) → c ≤ 32768 → blank_number (numbered c k) ≡ c
unnumbered c k h = go (side c)
  where
    big : (x : ℕ) → 32768 ≤ x → blank_number x ≡ 32768
    big x l = by (side x)
      where
        by : Side x → blank_number x ≡ 32768
        by (symbol q e n) = absurd (omega arith)
        by (variable q e n) = n

    go : Side c → blank_number (numbered c k) ≡ c
    go (symbol l e n) = ap (λ (b : Bool). blank_number (pick b c (c + k))) (lt-ltb c 32768 l) ∙ n
    go (variable l e n) = ap (λ (b : Bool). blank_number (pick b c (c + k))) (le-ltb c 32768 l) ∙ big (c + k) (omega arith) ∙ omega arith

pub numbered_low : (c k : ℕ) → c ≤ 32768 → k ≤ 32 → numbered c k < 65536
numbered_low c k h l = go (ltb c 32768)
  where
    go : (b : Bool) → pick b c (c + k) < 65536
    go true = omega arith
    go false = omega arith

pub last_part : (u v : ℕ) → v < 65536 → (u * 65536 + v) % 65536 ≡ v
last_part u v h = omega arith

pub kept_cell : {way ks row : List ℕ} → Kept way ks row → Low row → length row ≤ 32 → (j : ℕ) → j < length row
    → blank_number (get_or way (j + 1) 0 % 65536) ≡ get_or (reverse row) j 0
kept_cell (none a b) h s j l = absurd (omega arith)
kept_cell {way} {ks} (more {c} {r} a b w k) h s j l = go (λ q. kept_cell k (λ d i. h d (Memᴰ.tail i)) (omega arith) j q) (ℕ_discrete j (length r))
  where
    at : get_or (reverse (c ∷ r)) (length r) 0 ≡ c
    at = ap (λ (z : List ℕ). get_or z (length r) 0) (reverse-cons c r)
        ∙ ap (λ (i : ℕ). get_or (reverse r ++ (c ∷ [])) i 0) (let q = length-reverse r in omega arith) ∙ get_or-append-add (reverse r) (c ∷ []) 0 0

    before : j < length r → get_or (reverse (c ∷ r)) j 0 ≡ get_or (reverse r) j 0
    before q = ap (λ (z : List ℕ). get_or z j 0) (reverse-cons c r) ∙ get_or-append (reverse r) (c ∷ []) 0 j (omega (arith, length-reverse r))

    low : c ≤ 32768
    low = h c (Memᴰ.head refl)

    go : (j < length r → blank_number (get_or way (j + 1) 0 % 65536) ≡ get_or (reverse r) j 0) → Dec (j ≡ length r)
        → blank_number (get_or way (j + 1) 0 % 65536) ≡ get_or (reverse (c ∷ r)) j 0
    go ih (yes q) =
        let i : j + 1 ≡ suc (length r) = omega arith in
        let few = blanks_low r (λ d i. h d (Memᴰ.tail i)) in
        ap (λ (z : ℕ). blank_number (get_or way z 0 % 65536)) i ∙ ap (λ (z : ℕ). blank_number (z % 65536)) a
        ∙ ap blank_number (last_part (word_of r % 281474976710656) (numbered c (blanks r)) (numbered_low c (blanks r) low (omega arith)))
        ∙ unnumbered c (blanks r) low ∙ sym at ∙ ap (λ (z : ℕ). get_or (reverse (c ∷ r)) z 0) (sym q)
    go ih (no q) = ih (omega arith) ∙ sym (before (omega arith))
