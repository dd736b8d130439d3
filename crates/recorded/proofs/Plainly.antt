-- A record that is the way's most general term is a whole term with the way's blanks.
use Rattle.std.specs.Prelude.{Ok}
use mathlib.Core.Path.{◌≡◌, refl, sym, ap, ◌∙◌}
use mathlib.Core.List.Memᴰ
use mathlib.Core.List.{List, [], ◌∷◌, ◌++◌, reverse, reverse-cons}
use Prim.Native.Nat.{ℕ, suc, ◌+◌, ◌%◌, ◌≤◌, ◌<◌}
use native.Mathlib.Omega.{arith}
use native.Mathlib.Decide.{ℕ_discrete}
use lib.ListN.{length, get_or, take, drop, length-take, length-reverse, get_or-append, take-append-drop}
use lib.Seq.{ext_get_or, get_or-take, get_or-append-add}
use Rattle.layout.specs.Layout.{term_words}
use Rattle.bits.specs.Packed.{fields}
use Rattle.bits.specs.Laws.{length_unpack}
use Rattle.term.specs.Reading.{read_term}
use Rattle.book.specs.Memory.{blank_number}
use Rattle.recorded.specs.Way.{wants, blanks, numbered, word_of, Kept, none, more, Low}
use Rattle.recorded.specs.WayCells.{blanks_low, numbered_low, last_part}
use Rattle.recorded.specs.Promises.{TermOf, Plain}
use Rattle.recorded.specs.General.{general, Opened, general_whole}

pub kept_opened : {way ks row : List ℕ} → Kept way ks row → Opened row
kept_opened (none a b) = tt
kept_opened (more a b h k) = (h, kept_opened k)

length_general : (r : List ℕ) → length (general r) ≡ length r
length_general [] = refl
length_general (c ∷ r) = ap suc (length_general r)

-- the last cell of each word of the way is that of the most general term
way_cell : {way ks row : List ℕ} → Kept way ks row → Low row → length row ≤ 32 → (j : ℕ) → j < length row → get_or way (j + 1) 0 % 65536 ≡ get_or (reverse (general row)) j 0
way_cell (none a b) h s j l = absurd (omega arith)
way_cell {way} {ks} (more {c} {r} a b w k) h s j l = go (λ q. way_cell k (λ d i. h d (Memᴰ.tail i)) (omega arith) j q) (ℕ_discrete j (length r))
  where
    g : ℕ
    g = numbered c (blanks r)

    long : length (reverse (general r)) ≡ length r
    long = length-reverse (general r) ∙ length_general r

    at : get_or (reverse (general (c ∷ r))) (length r) 0 ≡ numbered c (blanks r)
    at = ap (λ (z : List ℕ). get_or z (length r) 0) (reverse-cons (numbered c (blanks r)) (general r))
        ∙ ap (λ (i : ℕ). get_or (reverse (general r) ++ (numbered c (blanks r) ∷ [])) i 0) (let q = long in
        let e : length r ≡ length (reverse (general r)) + 0 = omega arith in e)
        ∙ get_or-append-add (reverse (general r)) (numbered c (blanks r) ∷ []) 0 0

    before : j < length r → get_or (reverse (general (c ∷ r))) j 0 ≡ get_or (reverse (general r)) j 0
    before q = ap (λ (z : List ℕ). get_or z j 0) (reverse-cons (numbered c (blanks r)) (general r))
        ∙ get_or-append (reverse (general r)) (numbered c (blanks r) ∷ []) 0 j (let e = long in omega arith)

    go : (j < length r → get_or way (j + 1) 0 % 65536 ≡ get_or (reverse (general r)) j 0) → Dec (j ≡ length r)
        → get_or way (j + 1) 0 % 65536 ≡ get_or (reverse (general (c ∷ r))) j 0
    go ih (yes q) =
        let i : j + 1 ≡ suc (length r) = omega arith in
        let few = blanks_low r (λ d i. h d (Memᴰ.tail i)) in
        ap (λ (z : ℕ). get_or way z 0 % 65536) i ∙ ap (λ (z : ℕ). z % 65536) a
        ∙ last_part (word_of r % 281474976710656) (numbered c (blanks r)) (numbered_low c (blanks r) (h c (Memᴰ.head refl)) (omega arith))
        ∙ sym at ∙ ap (λ (z : ℕ). get_or (reverse (general (c ∷ r))) z 0) (sym q)
    go ih (no q) = ih (omega arith) ∙ sym (before (omega arith))

pub plain_term : (words way ks row : List ℕ) (depth : ℕ) → length words ≡ term_words → Kept way ks row → Low row → length row ≡ depth → wants row ≡ 0
    → Plain words way depth → TermOf words way depth
plain_term words way ks row depth eight k h d z p = record { whole = whole; clean = p.clean; same = λ j l. ap blank_number (p.same j l) }
  where
    long : length (fields words) ≡ 32
    long = length_unpack 16 4 words ∙ omega arith

    begins : take depth (fields words) ≡ reverse (general row)
    begins = ext_get_or 0 (take depth (fields words)) (reverse (general row))
        (omega (arith, length-take depth (fields words), long, p.short, length-reverse (general row), length_general row))
        (λ j l. let q : j < depth = omega (arith, length-take depth (fields words)) in
        get_or-take depth (fields words) j 0 q ∙ p.same j q ∙ way_cell k h (let s = p.short in omega arith) j (omega arith))

    whole : read_term (fields words) ≡ Ok depth
    whole = ap read_term (sym (take-append-drop depth (fields words)) ∙ ap (λ (x : List ℕ). x ++ drop depth (fields words)) begins)
        ∙ general_whole row (drop depth (fields words)) h (kept_opened k) (let s = p.short in omega arith) z ∙ ap Ok d
