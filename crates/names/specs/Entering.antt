-- What entering a name leads to: the table still passes, entering again changes nothing, and the number gives the name back. Those
-- three themselves rest on how `entry_in` computes its answer, and stand in proofs/Entering.
use Rattle.std.specs.Prelude.{◌≡◌, refl, get_or, Result, Ok, Err}
use Rattle.std.proofs.Common.{sym, subst, ◌∙◌, length-append}
use Rattle.std.proofs.Math.Path.{ap}
use mathlib.Core.List.{List, [], ◌∷◌, ◌++◌, append_assoc, append-nil}
use Prim.Native.Nat.{ℕ, zero, suc, ◌+◌, ◌-◌, ◌*◌, ◌<◌}
use native.Mathlib.Omega.{arith}
use Rattle.std.proofs.Math.Decide.{dec_lt}
use Rattle.std.proofs.Math.ListN.{length, take, drop, replicate, get_or-append}
use Rattle.std.proofs.Math.Seq.{take_at, drop-append-add, get_or-append_seam}
use Rattle.std.proofs.lemmas.List.{drop-replicate}
use Rattle.names.specs.Name.{IsName}
use Rattle.names.specs.Table.{Named, Apart, Missing, slot_of, slots_of, put, Holds}
use Rattle.names.specs.Cases.{Given, failing, no_name, held, new, no_slot}
use Rattle.names.specs.Calls.{table_after, Entry, Held, New, Refusal, refusal_of_entry, number_of_entry, PartOf, at, Part, NameIs, start_of_part, size_of_part}
use Rattle.names.specs.Slots.{slots_append, slots_length, slot_used, slot_name}
use Rattle.names.specs.Once.{part_once}

-- One name more at the end.
module _ (names : List (List ℕ)) (name : List ℕ) where
  pub more_length : length (names ++ (name ∷ [])) ≡ length names + 1
  more_length = length-append names (name ∷ [])

  pub more_before : (k : ℕ) → k < length names → get_or (names ++ (name ∷ [])) k [] ≡ get_or names k []
  more_before k h = get_or-append names (name ∷ []) [] k h

  pub more_last : (k : ℕ) → k ≡ length names → get_or (names ++ (name ∷ [])) k [] ≡ name
  more_last k e = ap (λ (j : ℕ). get_or (names ++ (name ∷ [])) j []) e ∙ get_or-append_seam names name [] []

  pub more_named : Named names → IsName name → Named (names ++ (name ∷ []))
  more_named n i k l = go (dec_lt k (length names))
    where
      go : Dec (k < length names) → IsName (get_or (names ++ (name ∷ [])) k [])
      go (yes h) = subst IsName (sym (more_before k h)) (n k h)
      go (no h) = subst IsName (sym (more_last k (omega (arith, more_length)))) i

  pub more_apart : Apart names → Missing names name → Apart (names ++ (name ∷ []))
  more_apart a m j k l h e = go (dec_lt k (length names))
    where
      go : Dec (k < length names) → ⊥
      go (yes y) = a j k l y (sym (more_before j (omega arith)) ∙ e ∙ more_before k y)
      go (no y) =
          let last : k ≡ length names = omega (arith, more_length) in
          m j (omega arith) (sym (more_before j (omega arith)) ∙ e ∙ more_last k last)

pub drop_zeros : (n m : ℕ) → ◌≡◌ {A = List ℕ} (drop n (replicate (n + m) 0)) (replicate m 0)
drop_zeros zero m = let e : zero + m ≡ m = omega arith in ap (λ (k : ℕ). replicate k 0) e
drop_zeros (suc n) m = let e : suc n + m ≡ suc (n + m) = omega arith in ap (λ (k : ℕ). drop (suc n) (replicate k 0)) e ∙ drop_zeros n m

-- A new name over the first free slot: the table holds it as the last.
module _ {t : List ℕ} {names : List (List ℕ)} {free : ℕ} (h : Holds t names free) (name : List ℕ) (room : 0 < free) where
  pub put_is : put t (length names) name ≡ slots_of names ++ (slot_of name ++ replicate (32 * (free - 1)) 0)
  unfolding put
  put_is =
      let size = slots_length names h.named in
      let zeros : List ℕ = replicate (32 * free) 0 in
      let front : take (32 * length names) t ≡ slots_of names = ap (take (32 * length names)) h.written ∙ take_at (slots_of names) zeros (32 * length names) size in
      let past : 32 * length names + 32 ≡ length (slots_of names) + 32 = omega arith in
      let left : 32 * free - 32 ≡ 32 * (free - 1) = omega arith in
      let rest : drop (32 * length names + 32) t ≡ replicate (32 * (free - 1)) 0 =
      ap (drop (32 * length names + 32)) h.written ∙ ap (λ (n : ℕ). drop n (slots_of names ++ zeros)) past ∙ drop-append-add (slots_of names) zeros 32
      ∙ drop-replicate 32 (32 * free) 0 ∙ ap (λ (n : ℕ). replicate n 0) left in
      ap (λ (l : List ℕ). l ++ (slot_of name ++ drop (32 * length names + 32) t)) front ∙ ap (λ (l : List ℕ). slots_of names ++ (slot_of name ++ l)) rest

  one_slot : slots_of (name ∷ []) ≡ slot_of name
  unfolding slots_of
  one_slot = append-nil (slot_of name)

  pub put_holds : IsName name → Missing names name → Holds (put t (length names) name) (names ++ (name ∷ [])) (free - 1)
  put_holds i m = record {
    written = put_is ∙ sym (append_assoc (slots_of names) (slot_of name) (replicate (32 * (free - 1)) 0))
        ∙ ap (λ (l : List ℕ). l ++ replicate (32 * (free - 1)) 0) (ap (λ (s : List ℕ). slots_of names ++ s) (sym one_slot) ∙ sym (slots_append names (name ∷ [])));
    some = omega (arith, more_length names name);
    most = omega (arith, more_length names name, h.most);
    named = more_named names name h.named i;
    apart = more_apart names name h.apart m;
  }

-- The answer to the same name again: a name that was made is held now.
abbrev pub again : Result Entry Refusal → Result Entry Refusal
again (Ok (Held k)) = Ok (Held k)
again (Ok (New k)) = Ok (Held k)
again (Err refusal) = Err refusal

pub given_again : {t name : List ℕ} (a : Result Entry Refusal) → Given t name a → Given (table_after t name a) name (again a)
given_again a (failing f) = failing f
given_again a (no_name p n) = no_name p n
given_again a (held h l e) = held h l e
given_again {t} {name} a (new {names = names} {free = free} {k = k} h n m z e) =
    let there : k < length (names ++ (name ∷ [])) = omega (arith, more_length names name) in
    held (subst (λ (j : ℕ). Holds (put t j name) (names ++ (name ∷ [])) (free - 1)) (sym e) (put_holds h name z n m)) there (more_last names name k e)
given_again a (no_slot h n m) = no_slot h n m

pub again_stays : (t name : List ℕ) (a : Result Entry Refusal) → table_after t name (again a) ≡ t
again_stays t name (Ok (Held k)) = refl
again_stays t name (Ok (New k)) = refl
again_stays t name (Err refusal) = refl

pub again_says : (a : Result Entry Refusal) → (refusal_of_entry (again a) ≡ refusal_of_entry a) × (number_of_entry (again a) ≡ number_of_entry a)
again_says (Ok (Held k)) = (refl, refl)
again_says (Ok (New k)) = (refl, refl)
again_says (Err refusal) = (refl, refl)

-- Entering a name twice gives the same refusal, the same number and the same table.
pub record Same (a b : Result Entry Refusal) (s u : List ℕ) : Type 0 where
  pub refusal : refusal_of_entry b ≡ refusal_of_entry a
  pub number : number_of_entry b ≡ number_of_entry a
  pub table : u ≡ s

-- The name with the number k is the part of the table after the first byte of slot k.
module _ {t : List ℕ} {names : List (List ℕ)} {free : ℕ} (h : Holds t names free) (k : ℕ) (l : k < length names) where
  pub slot_holds : take 32 (drop (32 * k) t) ≡ slot_of (get_or names k [])
  slot_holds = ap (λ (x : List ℕ). take 32 (drop (32 * k) x)) h.written ∙ slot_used names (replicate (32 * free) 0) k h.named l

  pub name_is : take (length (get_or names k [])) (drop (32 * k + 1) t) ≡ get_or names k []
  name_is = slot_name t k (get_or names k []) slot_holds (h.named k l).short

  abbrev pub part_at : Part
  part_at = record { start = 32 * k + 1; size = length (get_or names k []) }

  pub stands_at : PartOf t k (Ok part_at)
  stands_at = at h l refl refl

  pub name_held : (part : List ℕ) → NameIs t k part → part ≡ get_or names k []
  name_held part p =
      p.name_is ∙ ap (λ (x : Result Part Refusal). take (size_of_part x) (drop (start_of_part x) t)) (part_once p.part (Ok part_at) p.stands stands_at) ∙ name_is
