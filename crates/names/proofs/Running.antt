-- The used slots, one after another: what the next slot says of the whole table, and what the search among the earlier ones
-- says of its name.
use mathlib.Core.Path.{◌≡◌, refl, sym, ap, subst, ◌∙◌}
use mathlib.Core.List.{List, [], ◌∷◌, ◌++◌, append_assoc, append-nil}
use Prim.Native.Nat.{ℕ, suc, ◌+◌, ◌-◌, ◌*◌, ◌≤◌, ◌<◌}
use native.Mathlib.Omega.{arith}
use native.Mathlib.Decide.{dec_lt}
use lib.ListN.{length, get_or, take, drop, replicate, take-append-drop, length-append, length-replicate, length-drop, get_or-append}
use Rattle.std.proofs.lemmas.List.{get_or_past, take_rest}
use lib.Seq.{drop-drop, get_or-drop, ext_get_or}
use Rattle.names.specs.Table.{Missing, slot_of, slots_of, Holds, Passes}
use Rattle.names.specs.Calls.{Counts}
use Rattle.names.specs.Index.{bucket_of, bucket_at, Indexed}
use Rattle.names.specs.Leaves.{AllZero, Used, Says, Finds, UsedTo, Ends}
use Rattle.std.specs.Prelude.{true, false, Option, Some, None, is_some}
use Rattle.names.specs.Slots.{slot_once, slots_append, slots_length, slot_used, slot_byte, slot_first, slot_name, zeros_are, byte_free}
use Rattle.names.specs.Entering.{more_length, more_named, more_apart, slot_holds}
use Rattle.names.proofs.Using.{part_of}

slot_after : (name : List ℕ) (i : ℕ) → get_or (slot_of name) (1 + i) 0 ≡ get_or (name ++ replicate (31 - length name) 0) i 0
unfolding slot_of
slot_after name i = let e : 1 + i ≡ suc i = omega arith in ap (λ (j : ℕ). get_or (slot_of name) j 0) e

-- A slot says a name exactly if the name is the one in it.
module _ (t : List ℕ) (k : ℕ) (own : List ℕ) (e : take 32 (drop (32 * k) t) ≡ slot_of own) (short : length own ≤ 31) where
  own_byte : (i : ℕ) → i < length own → get_or t (32 * k + 1 + i) 0 ≡ get_or own i 0
  own_byte i l =
      let f : 32 * k + 1 + i ≡ 32 * k + (1 + i) = omega arith in
      ap (λ (j : ℕ). get_or t j 0) f ∙ slot_byte t k own e (1 + i) (omega arith) ∙ slot_after own i ∙ get_or-append own (replicate (31 - length own) 0) 0 i l

  pub says_own : (name : List ℕ) → Says t k name → own ≡ name
  says_own name s =
      let size : length own ≡ length name = sym (slot_first t k own e) ∙ s.size in
      ext_get_or 0 own name size (λ i l. sym (own_byte i l) ∙ s.bytes i (omega arith))

  pub own_says : (name : List ℕ) → own ≡ name → Says t k name
  own_says name f = subst (Says t k) f (record { size = slot_first t k own e; bytes = own_byte })

-- Slot s and the name in it, as the code has them.
abbrev pub slot_here : (t : List ℕ) (s : ℕ) → List ℕ
slot_here t s = take (32 * s + 32 - 32 * s) (drop (32 * s) t)

abbrev pub name_here : (t : List ℕ) (s n : ℕ) → List ℕ
name_here t s n = take (32 * s + 1 + n - (32 * s + 1)) (drop (32 * s + 1) t)

-- Slot s of a table, whose first byte n is not 0.
module _ (t : List ℕ) (s n : ℕ) (first : n ≡ get_or t (32 * s) 0) (some : n ≡ 0 → ⊥) where
  -- It is among the used ones of a table that passes.
  inside : (p : Passes t) → s < length p.names
  inside p = go (dec_lt s (length p.names))
    where
      go : Dec (s < length p.names) → s < length p.names
      go (yes l) = l
      go (no l) =
          let h = p.holds in
          absurd (some (first ∙ ap (λ (x : List ℕ). get_or x (32 * s) 0) h.written ∙ byte_free p.names p.free (32 * s) h.named (omega arith)))

  pub broken_slot : (Used (slot_here t s) → ⊥) → Passes t → ⊥
  broken_slot f p =
      let l = inside p in
      f (record { name = get_or p.names s []; named = p.holds.named s l; written = part_of t (32 * s) 32 ∙ slot_holds p.holds s l })

  module _ (u : Used (slot_here t s)) where
    slot_is_used : take 32 (drop (32 * s) t) ≡ slot_of u.name
    slot_is_used = sym (part_of t (32 * s) 32) ∙ u.written

    pub size_is : n ≡ length u.name
    size_is = first ∙ slot_first t s u.name slot_is_used

    pub size_short : n ≤ 31
    size_short = let short = u.named.short in omega (arith, size_is)

    pub name_is : name_here t s n ≡ u.name
    name_is =
        part_of t (32 * s + 1) n ∙ ap (λ (m : ℕ). take m (drop (32 * s + 1) t)) size_is ∙ slot_name t s u.name slot_is_used u.named.short

    -- An earlier slot says the same.
    pub broken_twice : (k : ℕ) → k < s → Says t k (name_here t s n) → Passes t → ⊥
    broken_twice k l y p =
        let h = p.holds in
        let i = inside p in
        let j : k < length p.names = omega arith in
        let here : get_or p.names s [] ≡ u.name = slot_once _ _ (sym (slot_holds h s i) ∙ slot_is_used) in
        let there : get_or p.names k [] ≡ name_here t s n = says_own t k (get_or p.names k []) (slot_holds h k j) (h.named k j).short (name_here t s n) y in
        h.apart k s l i (there ∙ name_is ∙ sym here)

    -- It has the bucket of its name.
    pub bucket_here : (h : ℕ) → h ≡ bucket_of (name_here t s n) → bucket_at t s ≡ h
    bucket_here h e = ap bucket_of (sym (part_of t (32 * s + 1) n ∙ ap (λ (m : ℕ). take m (drop (32 * s + 1) t)) first)) ∙ sym e

    module _ (b : UsedTo t s) where
      held_slot : (k : ℕ) → k < s → take 32 (drop (32 * k) t) ≡ slot_of (get_or b.names k [])
      held_slot k l =
          ap (λ (x : List ℕ). take 32 (drop (32 * k) x)) b.written ∙ slot_used b.names (drop (32 * s) t) k b.named (omega (arith, b.count))

      -- No earlier slot says the same.
      pub new_name : ((k : ℕ) → k < s → Says t k (name_here t s n) → ⊥) → Missing b.names (name_here t s n)
      new_name none k l e =
          let j : k < s = omega (arith, b.count) in
          none k j (own_says t k (get_or b.names k []) (held_slot k j) (b.named k l).short (name_here t s n) e)

      -- One slot more.
      pub begins_more : Missing b.names (name_here t s n) → UsedTo t (s + 1)
      unfolding slots_of
      begins_more m =
          let past : 32 * s + 32 ≡ 32 * (s + 1) = omega arith in
          let rest : drop (32 * s) t ≡ slot_of u.name ++ drop (32 * (s + 1)) t =
          sym (take-append-drop 32 (drop (32 * s) t)) ∙ ap (λ (x : List ℕ). x ++ drop 32 (drop (32 * s) t)) slot_is_used
          ∙ ap (λ (x : List ℕ). slot_of u.name ++ x) (drop-drop 32 (32 * s) t ∙ ap (λ (i : ℕ). drop i t) past) in
          let all : slots_of (b.names ++ (u.name ∷ [])) ≡ slots_of b.names ++ slot_of u.name =
          slots_append b.names (u.name ∷ []) ∙ ap (λ (x : List ℕ). slots_of b.names ++ x) (append-nil (slot_of u.name)) in
          record {
            names = b.names ++ (u.name ∷ []);
            count = more_length b.names u.name ∙ ap (λ (i : ℕ). i + 1) b.count;
            written = b.written ∙ ap (λ (x : List ℕ). slots_of b.names ++ x) rest ∙ sym (append_assoc (slots_of b.names) (slot_of u.name) (drop (32 * (s + 1)) t))
                ∙ ap (λ (x : List ℕ). x ++ drop (32 * (s + 1)) t) (sym all);
            named = more_named b.names u.name b.named u.named;
            apart = more_apart b.names u.name b.apart (subst (Missing b.names) name_is m);
          }

-- What a search among the earlier slots found.
pub found_twice : (t : List ℕ) (s : ℕ) (name : List ℕ) (found : Option ℕ) → Finds t s name found → is_some found ≡ true → (k : ℕ) × (k < s) × Says t k name
found_twice t s name (Some k) d e = (k, d.0, d.1)
found_twice t s name None d e = absurd (cc)

pub found_none : (t : List ℕ) (s : ℕ) (name : List ℕ) (found : Option ℕ) → Finds t s name found → is_some found ≡ false → (k : ℕ) → k < s → Says t k name → ⊥
found_none t s name (Some k) d e = absurd (cc)
found_none t s name None d e = d

-- Before the first slot.
pub begins_none : (t : List ℕ) → UsedTo t 0
unfolding slots_of
begins_none t = record { names = []; count = refl; written = refl; named = λ k l. absurd (omega arith); apart = λ j k l m. absurd (omega arith) }

-- Each slot is used: past the end of the table a byte reads as 0.
pub ends_full : (t index : List ℕ) (slots s : ℕ) → length t ≡ 32 * slots → s ≡ slots → UsedTo t s → Indexed t s index → Ends t index slots slots
ends_full t index slots s size e b x = subst (Ends t index slots) e (record { begins = b; indexed = x; within = omega arith; ends = get_or_past t (32 * s) 0 (omega arith) })

-- The length of a table that passes.
pub length_is : {t : List ℕ} {names : List (List ℕ)} {free : ℕ} → Holds t names free → length t ≡ 32 * (length names + free)
length_is {t} {names} {free} h =
    omega (arith, ap length h.written, length-append (slots_of names) (replicate (32 * free) 0), slots_length names h.named, length-replicate {A = ℕ} (32 * free) 0)

-- Where the used slots end, the rest of the table decides.
module _ (t index : List ℕ) (slots held : ℕ) (size : length t ≡ 32 * slots) (e : Ends t index slots held) where
  -- The bytes from there on, as the code has them.
  abbrev rest : List ℕ
  rest = take (length t - 32 * held) (drop (32 * held) t)

  pub counts : 1 ≤ slots → slots ≤ 1024 → AllZero rest → Counts t held (slots - held)
  counts some most z =
      let b = e.begins in
      let w = e.within in
      let free : length (drop (32 * held) t) ≡ 32 * (slots - held) = simp length-drop (omega arith) in
      let zeros = zeros_are (drop (32 * held) t) (λ i. ap (λ (x : List ℕ). get_or x i 0) (sym (take_rest t (32 * held))) ∙ z i) in
      record {
        names = b.names;
        holds = record {
          written = b.written ∙ ap (λ (x : List ℕ). slots_of b.names ++ x) (zeros ∙ ap (λ (n : ℕ). replicate n 0) free);
          some = omega (arith, b.count);
          most = omega (arith, b.count);
          named = b.named;
          apart = b.apart;
        };
        count = b.count;
      }

  -- No name of a passing table stands past them.
  no_more : (p : Passes t) → length p.names ≤ held
  no_more p = go (dec_lt held (length p.names))
    where
      go : Dec (held < length p.names) → length p.names ≤ held
      go (yes l) =
          let some = (p.holds.named held l).some in
          absurd (omega (arith, e.ends, slot_first t held (get_or p.names held []) (slot_holds p.holds held l)))
      go (no l) = omega arith

  pub broken_rest : (AllZero rest → ⊥) → Passes t → ⊥
  broken_rest f p =
      let h = p.holds in
      let few = no_more p in
      f (λ i. ap (λ (x : List ℕ). get_or x i 0) (take_rest t (32 * held)) ∙ get_or-drop (32 * held) t i 0
      ∙ ap (λ (x : List ℕ). get_or x (32 * held + i) 0) h.written ∙ byte_free p.names p.free (32 * held + i) h.named (omega arith))
