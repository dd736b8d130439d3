-- Laws of slots: where each stands in the table, what its bytes are, and that it says which name it holds.
use Rattle.std.specs.Prelude.{◌≡◌, refl, List, [], ◌∷◌, ◌++◌, ℕ, zero, suc, ◌+◌, ◌-◌, ◌*◌, ◌≤◌, ◌<◌, take, drop, replicate}
use Rattle.std.proofs.Math.Path.{sym, ap}
use Rattle.std.proofs.Common.{subst, ◌∙◌, append_assoc, add-one, take-append-drop, length-append, length-take, length-drop, take_at, take-take, drop-drop, get_or-append-add, get_or-take, get_or-drop}
use native.Mathlib.Omega.{arith}
use Rattle.std.proofs.Math.ListN.{length, get_or}
use Rattle.std.proofs.lemmas.List.{length-replicate}
use Rattle.std.proofs.Math.Seq.{take-nil, drop-append-add}
use Rattle.names.specs.Table.{Named, slot_of, slots_of}

-- The name that a used slot holds.
abbrev pub name_inside : List ℕ → List ℕ
name_inside slot = take (get_or slot 0 0) (drop 1 slot)

pub name_in : (name : List ℕ) → name_inside (slot_of name) ≡ name
unfolding slot_of
name_in name = take_at name (replicate (31 - length name) 0) (length name) refl

pub slot_once : (a b : List ℕ) → slot_of a ≡ slot_of b → a ≡ b
slot_once a b e = sym (name_in a) ∙ ap name_inside e ∙ name_in b

pub slot_length : (name : List ℕ) → length name ≤ 31 → length (slot_of name) ≡ 32
unfolding slot_of
slot_length name h = let e : length (name ++ replicate (31 - length name) 0) ≡ 31 = simp (length-append, length-replicate) (omega arith) in omega arith

pub slots_append : (a b : List (List ℕ)) → slots_of (a ++ b) ≡ slots_of a ++ slots_of b
unfolding slots_of
slots_append [] b = refl
slots_append (name ∷ a) b = rw (slots_append a b) (sym (append_assoc (slot_of name) (slots_of a) (slots_of b)))

pub named_rest : (name : List ℕ) (names : List (List ℕ)) → Named (name ∷ names) → Named names
named_rest name names n k h = n (suc k) (omega arith)

pub slots_length : (names : List (List ℕ)) → Named names → length (slots_of names) ≡ 32 * length names
unfolding slots_of
slots_length [] n = refl
slots_length (name ∷ names) n =
    let here = slot_length name (n 0 (omega arith)).short in
    let rest = slots_length names (named_rest name names n) in
    omega (arith, length-append (slot_of name) (slots_of names))

-- Slot k of a table that begins with these names: a used one, where it is one of them.
pub slot_used : (names : List (List ℕ)) (rest : List ℕ) (k : ℕ) → Named names → k < length names → take 32 (drop (32 * k) (slots_of names ++ rest)) ≡ slot_of (get_or names k [])
unfolding slots_of
slot_used [] rest k n h = absurd (omega arith)
slot_used (name ∷ names) rest zero n h =
    rw append_assoc (take_at (slot_of name) (slots_of names ++ rest) 32 (slot_length name (n 0 (omega arith)).short))
slot_used (name ∷ names) rest (suc k) n h =
    let here = slot_length name (n 0 (omega arith)).short in
    let past : 32 * suc k ≡ length (slot_of name) + 32 * k = omega arith in
    rw (append_assoc, past, drop-append-add (slot_of name) (slots_of names ++ rest) (32 * k)) (slot_used names rest k (named_rest name names n) (omega arith))

-- A list of zeros is 0 at each index.
pub zero_at : (n i : ℕ) → ◌≡◌ {A = ℕ} (get_or (replicate n 0) i 0) 0
zero_at zero i = refl
zero_at (suc n) zero = refl
zero_at (suc n) (suc i) = zero_at n i

pub zeros_are : (s : List ℕ) → ((i : ℕ) → get_or s i 0 ≡ 0) → s ≡ replicate (length s) 0
zeros_are [] z = refl
zeros_are (b ∷ s) z = let e = zeros_are s (λ i. z (suc i)) in let f : b ≡ 0 = z 0 in cc

-- From the first free slot on each byte is 0.
pub byte_free : (names : List (List ℕ)) (free i : ℕ) → Named names → 32 * length names ≤ i → get_or (slots_of names ++ replicate (32 * free) 0) i 0 ≡ 0
byte_free names free i n h =
    let e : length (slots_of names) + (i - 32 * length names) ≡ i = omega (arith, slots_length names n) in
    subst (λ (j : ℕ). get_or (slots_of names ++ replicate (32 * free) 0) j 0 ≡ 0) e
    (get_or-append-add (slots_of names) (replicate (32 * free) 0) (i - 32 * length names) 0 ∙ zero_at (32 * free) (i - 32 * length names))

-- A slot whose first byte is a length, whose next bytes are a name of that length and whose other bytes are 0 is that name's.
pub slot_is : (s : List ℕ) (n : ℕ) → length s ≡ 32 → get_or s 0 0 ≡ n → n ≤ 31 → ((i : ℕ) → get_or (drop (n + 1) s) i 0 ≡ 0) → s ≡ slot_of (take n (drop 1 s))
unfolding slot_of
slot_is [] n l e h z = absurd (omega arith)
slot_is (b ∷ s) n l e h z =
    let size : length (take n s) ≡ n = simp length-take (omega arith) in
    let f : b ≡ length (take n s) = e ∙ sym size in
    let left : length (drop n s) ≡ 31 - length (take n s) = simp length-drop (omega arith) in
    let zs : drop n s ≡ replicate (length (drop n s)) 0 = zeros_are (drop n s) (λ i. rw add-one at (z i)) in
    let g : s ≡ take n s ++ replicate (31 - length (take n s)) 0 = sym (take-append-drop n s) ∙ ap (λ (r : List ℕ). take n s ++ r) (zs ∙ ap (λ (m : ℕ). replicate m 0) left) in
    cc

-- What is 0 at each index below the length is 0 at each index.
pub zero_past : (s : List ℕ) → ((i : ℕ) → i < length s → get_or s i 0 ≡ 0) → (i : ℕ) → get_or s i 0 ≡ 0
zero_past [] h i = refl
zero_past (b ∷ s) h zero = h 0 (omega arith)
zero_past (b ∷ s) h (suc i) = zero_past s (λ j l. h (suc j) (omega arith)) i

-- What slot k of a table says, where it is this name's: its first byte, and the name after it.
drop_take : (n : ℕ) (l : List ℕ) → drop 1 (take (suc n) l) ≡ take n (drop 1 l)
drop_take n [] = sym (take-nil n)
drop_take n (b ∷ l) = refl

module _ (t : List ℕ) (k : ℕ) (name : List ℕ) (e : take 32 (drop (32 * k) t) ≡ slot_of name) where
  pub slot_byte : (i : ℕ) → i < 32 → get_or t (32 * k + i) 0 ≡ get_or (slot_of name) i 0
  slot_byte i l = sym (get_or-drop (32 * k) t i 0) ∙ sym (get_or-take 32 (drop (32 * k) t) i 0 l) ∙ ap (λ (s : List ℕ). get_or s i 0) e

  pub slot_first : get_or t (32 * k) 0 ≡ length name
  unfolding slot_of
  slot_first = let z : 32 * k + 0 ≡ 32 * k = omega arith in ap (λ (i : ℕ). get_or t i 0) (sym z) ∙ slot_byte 0 (omega arith)

  pub slot_name : length name ≤ 31 → take (length name) (drop (32 * k + 1) t) ≡ name
  unfolding slot_of
  slot_name h =
      let n = length name in
      ap (take n) (sym (drop-drop 1 (32 * k) t)) ∙ sym (take-take n 31 (drop 1 (drop (32 * k) t)) h)
      ∙ ap (take n) (sym (drop_take 31 (drop (32 * k) t)) ∙ ap (drop 1) e) ∙ name_in name
