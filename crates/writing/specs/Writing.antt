-- Bytes put into lent text one after another: what every call that puts something promises, and how two such calls make one.
use Rattle.std.specs.Prelude.{◌≡◌, refl, List, [], ◌∷◌, ◌++◌, Bool, ℕ, suc, ◌+◌, ◌≤◌, ◌<◌, ltb, length, drop, set}
use Rattle.std.proofs.Common.{sym, ap, ◌∙◌, arith, lt-ltb, length-set, length-append}
use Rattle.std.proofs.lemmas.List.Edits.{sets, sets-eq}
use Rattle.deciding.specs.Deciding.{pick}

-- Text, and the place in it where the next byte goes.
pub data Page : Type 0 where
  page : List ℕ → ℕ → Page

-- One byte, where the text has room for it.
unfoldable pub byte_put : ℕ → Page → Page
byte_put b (page text at) = pick (ltb at (length text)) (page (set text at b) (at + 1)) (page text at)

unfoldable pub puts : List ℕ → Page → Page
puts [] s = s
puts (b ∷ bytes) s = puts bytes (byte_put b s)

-- A call was given a text and a place, and leaves a text and a place: between them the bytes were put.
pub record Puts (bytes text : List ℕ) (at : ℕ) (after : List ℕ) (end : ℕ) : Type 0 where
  pub put : page after end ≡ puts bytes (page text at)

pub puts_append : (a b : List ℕ) (s : Page) → puts (a ++ b) s ≡ puts b (puts a s)
unfolding puts
puts_append [] b s = refl
puts_append (x ∷ a) b s = puts_append a b (byte_put x s)

pub nothing : {text : List ℕ} {at : ℕ} → Puts [] text at text at
unfolding puts
nothing = record { put = refl }

-- Two calls, one after the other.
pub both : {a b text : List ℕ} {at : ℕ} {between : List ℕ} {place : ℕ} {after : List ℕ} {end : ℕ}
    → Puts a text at between place → Puts b between place after end → Puts (a ++ b) text at after end
both {a} {b} {text} {at} p q = record { put = q.put ∙ ap (puts b) p.put ∙ sym (puts_append a b (page text at)) }

pub same_bytes : {a b text : List ℕ} {at : ℕ} {after : List ℕ} {end : ℕ} → a ≡ b → Puts a text at after end → Puts b text at after end
same_bytes {text = text} {at = at} e p = record { put = p.put ∙ ap (λ (l : List ℕ). puts l (page text at)) e }

-- Where there is room for all, they stand at the place, and nothing else changed.
pub puts_fit : (bytes text : List ℕ) (at : ℕ) → at + length bytes ≤ length text → puts bytes (page text at) ≡ page (sets text at bytes) (at + length bytes)
unfolding puts byte_put
puts_fit [] text at h = ap (page text) (omega arith)
puts_fit (b ∷ bytes) text at h =
    let i : at < length text = omega arith in
    let e : at + 1 ≡ suc at = omega arith in
    let s : at + 1 + length bytes ≡ at + suc (length bytes) = omega arith in
    ap (λ (t : Bool). puts bytes (pick t (page (set text at b) (at + 1)) (page text at))) (lt-ltb at (length text) i)
    ∙ puts_fit bytes (set text at b) (at + 1) (omega (arith, length-set text at b))
    ∙ ap (λ (k : ℕ). page (sets (set text at b) k bytes) (at + 1 + length bytes)) e
    ∙ ap (page (sets (set text at b) (suc at) bytes)) s

-- The bytes are the front of the text, up to the end; what stood behind stays.
pub record Front (bytes text after : List ℕ) (end : ℕ) : Type 0 where
  pub text_is : after ≡ bytes ++ drop (length bytes) text
  pub end_is : end ≡ length bytes
  pub within : end ≤ length after

pub stand : {bytes text after : List ℕ} {end : ℕ} → length bytes ≤ length text → Puts bytes text 0 after end → Front bytes text after end
stand {bytes} {text} {after} {end} h p =
    let n : 0 + length bytes ≡ length bytes = omega arith in
    let e : page after end ≡ page (sets text 0 bytes) (0 + length bytes) = p.put ∙ puts_fit bytes text 0 (omega arith) in
    let a : after ≡ sets text 0 bytes = cc in
    let z : end ≡ 0 + length bytes = cc in
    let t : after ≡ bytes ++ drop (length bytes) text = a ∙ sets-eq bytes text 0 (omega arith) ∙ ap (λ (k : ℕ). bytes ++ drop k text) n in
    record { text_is = t; end_is = z ∙ n; within = omega (arith, ap length t ∙ length-append bytes (drop (length bytes) text)) }
