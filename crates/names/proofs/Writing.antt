-- A table that passes: what a search in it finds, and what writing a name into its first free slot makes of it.
use mathlib.Core.Path.{◌≡◌, sym, ap, ap₂, ◌∙◌}
use mathlib.Core.List.{List, [], ◌∷◌, ◌++◌, append_assoc}
use Prim.Native.Nat.{ℕ, suc, ◌+◌, ◌-◌, ◌*◌, ◌≤◌, ◌<◌}
use native.Mathlib.Omega.{arith}
use Prim.{tt}
use Rattle.std.specs.Prelude.{Option, Some, None, IfSome, Result}
use lib.ListN.{length, get_or, take, drop, set, replicate, replicate-append-replicate}
use lib.Seq.{paste, set-append_seam, take-append-add, take-length, take_at, drop-append-add}
use Rattle.std.proofs.lemmas.List.{drop-replicate}
use Rattle.names.specs.Table.{Missing, slot_in, slot_of, slots_of, put, Holds}
use Rattle.names.specs.Calls.{Appended, LooksUp, Part, Refusal, PartOf, bad_table, no_number, at, start_of_part, size_of_part}
use Rattle.names.specs.Cases.{slot_of_it, slot_missing}
use Rattle.names.specs.Leaves.{Says, Finds}
use Rattle.names.specs.Slots.{slots_append, slots_length}
use Rattle.names.specs.Entering.{slot_holds, put_is}
use Rattle.names.proofs.Running.{says_own, own_says, length_is}

module _ {t : List ℕ} {names : List (List ℕ)} {free : ℕ} (h : Holds t names free) (held : ℕ) (count : length names ≡ held) (name : List ℕ) where
  pub found_some : (slot : ℕ) → slot < held → Says t slot name → slot ≡ slot_in names name
  found_some slot l s =
      let k : slot < length names = omega arith in
      let there : get_or names slot [] ≡ name = says_own t slot (get_or names slot []) (slot_holds h slot k) (h.named slot k).short name s in
      sym (slot_of_it names slot name h.apart k there)

  pub found_none : ((k : ℕ) → k < held → Says t k name → ⊥) → held ≡ slot_in names name
  found_none none =
      let missing : Missing names name = λ k l e. none k (omega arith) (own_says t k (get_or names k []) (slot_holds h k l) (h.named k l).short name e) in
      sym count ∙ sym (slot_missing names name missing)

-- What a search among the slots finds is the name's slot, and none only where there is none.
pub looked_up : (t : List ℕ) (held : ℕ) (name : List ℕ) (found : Option ℕ) → Finds t held name found → IfSome found (λ slot. slot < held) × LooksUp t held name found
looked_up t held name (Some slot) d = (d.0, λ names free h count. found_some h held count name slot d.0 d.1)
looked_up t held name None d = (tt, λ names free h count. found_none h held count name d)

-- A name's length and bytes written over zeros.
written_zeros : (a name : List ℕ) (m : ℕ) → paste (set (a ++ replicate (suc (length name + m)) 0) (length a) (length name)) (length a + 1) name
    (length name) ≡ a ++ (length name ∷ (name ++ replicate m 0))
written_zeros a name m =
    let n = length name in
    let r : List ℕ = replicate (n + m) 0 in
    let past : length a + 1 + n ≡ length a + suc n = omega arith in
    let left : n + m - n ≡ m = omega arith in
    ap (λ (d : List ℕ). paste d (length a + 1) name n) (set-append_seam a 0 r n)
    ∙ ap (λ (x : List ℕ). x ++ take n name ++ drop (length a + 1 + n) (a ++ n ∷ r)) (take-append-add a (n ∷ r) 1)
    ∙ ap (λ (x : List ℕ). (a ++ (n ∷ [])) ++ x ++ drop (length a + 1 + n) (a ++ n ∷ r)) (take-length name)
    ∙ ap (λ (x : List ℕ). (a ++ (n ∷ [])) ++ name ++ x) (ap (λ (i : ℕ). drop i (a ++ n ∷ r)) past ∙ drop-append-add a (n ∷ r) (suc n) ∙ drop-replicate n (n + m) 0 ∙ ap (λ (i : ℕ). replicate i 0) left)
    ∙ append_assoc (a ++ (n ∷ [])) name (replicate m 0) ∙ append_assoc a (n ∷ []) (name ++ replicate m 0)

-- Over the first free slot of a passing table, this is `put`.
zeros_join : (name : List ℕ) (i j : ℕ) → name ++ replicate (i + j) 0 ≡ (name ++ replicate i 0) ++ replicate j 0
zeros_join name i j = ap (λ (x : List ℕ). name ++ x) (sym (replicate-append-replicate i j 0)) ∙ sym (append_assoc name (replicate i 0) (replicate j 0))

module _ {t : List ℕ} {names : List (List ℕ)} {free : ℕ} (h : Holds t names free) (name : List ℕ) (short : length name < 32) (room : 0 < free) where
  split : 32 * free ≡ suc (length name + (31 - length name + 32 * (free - 1)))
  split = omega arith

  whole : t ≡ slots_of names ++ replicate (suc (length name + (31 - length name + 32 * (free - 1)))) 0
  whole = h.written ∙ ap (λ (i : ℕ). slots_of names ++ replicate i 0) split

  put_last : slots_of names ++ (length name ∷ (name ++ replicate (31 - length name + 32 * (free - 1)) 0)) ≡ put t (length names) name
  unfolding slot_of
  put_last = ap (λ (x : List ℕ). slots_of names ++ (length name ∷ x)) (zeros_join name (31 - length name) (32 * (free - 1))) ∙ sym (put_is h name room)

  pub written_put : (held : ℕ) → length names ≡ held → paste (set t (32 * held) (length name)) (32 * held + 1) name (length name) ≡ put t held name
  written_put held count =
      let size : 32 * held ≡ length (slots_of names) = omega (arith, slots_length names h.named) in
      ap (λ (x : List ℕ). paste (set x (32 * held) (length name)) (32 * held + 1) name (length name)) whole
      ∙ ap (λ (i : ℕ). paste (set (slots_of names ++ replicate (suc (length name + (31 - length name + 32 * (free - 1)))) 0) i (length name)) (i + 1) name (length name)) size
      ∙ written_zeros (slots_of names) name (31 - length name + 32 * (free - 1)) ∙ put_last ∙ ap (λ (k : ℕ). put t k name) count

-- The first names of another table, copied behind those of this one.
pub names_copied : {t o : List ℕ} {held count : ℕ} {names new : List (List ℕ)} {free room : ℕ} → Appended t o held count names new free room
    → paste t (32 * held) (take (32 * count - 0) (drop 0 o)) (length (take (32 * count - 0) (drop 0 o))) ≡ slots_of (names ++ new) ++ replicate (32 * (free - count)) 0
names_copied {t} {o} {held} {count} {names} {new} {free} {room} a =
    let h = a.holds in
    let n = a.new_holds in
    let zeros : List ℕ = replicate (32 * free) 0 in
    let size : length (slots_of names) ≡ 32 * held = slots_length names h.named ∙ ap (λ (x : ℕ). 32 * x) a.held_is in
    let more : length (slots_of new) ≡ 32 * count = slots_length new n.named ∙ ap (λ (x : ℕ). 32 * x) a.count_is in
    let whole : 32 * count - 0 ≡ 32 * count = omega arith in
    let part : take (32 * count - 0) (drop 0 o) ≡ slots_of new = ap (λ (i : ℕ). take i o) whole ∙ ap (take (32 * count)) n.written ∙ take_at
    (slots_of new) (replicate (32 * room) 0) (32 * count) more in
    let front : take (32 * held) t ≡ slots_of names = ap (take (32 * held)) h.written ∙ take_at (slots_of names) zeros (32 * held) size in
    let past : 32 * held + length (slots_of new) ≡ length (slots_of names) + 32 * count = omega arith in
    let left : 32 * free - 32 * count ≡ 32 * (free - count) = let f = a.fits in omega arith in
    let rest : drop (32 * held + length (slots_of new)) t ≡ replicate (32 * (free - count)) 0 =
    ap₂ (λ (i : ℕ) (l : List ℕ). drop i l) past h.written ∙ drop-append-add (slots_of names) zeros (32 * count)
    ∙ drop-replicate (32 * count) (32 * free) 0 ∙ ap (λ (i : ℕ). replicate i 0) left in
    ap (λ (s : List ℕ). paste t (32 * held) s (length s)) part ∙ ap₂ (λ (x y : List ℕ). x ++ take (length (slots_of new)) (slots_of new) ++ y) front rest
    ∙ ap (λ (x : List ℕ). slots_of names ++ x ++ replicate (32 * (free - count)) 0) (take-length (slots_of new))
    ∙ ap (λ (x : List ℕ). x ++ replicate (32 * (free - count)) 0) (sym (slots_append names new))

-- A part lies within the table.
pub part_inside : (t : List ℕ) (number : ℕ) (p : Result Part Refusal) → PartOf t number p → start_of_part p + size_of_part p ≤ length t
part_inside t number p (bad_table f) = omega arith
part_inside t number p (no_number h l) = omega arith
part_inside t number p (at {part = part} h l s z) =
    let short = (h.named number l).short in
    let e : part.start + part.size ≤ length t = omega (arith, length_is h) in
    e
