-- One slot: what its first byte, the bytes of that length and the bytes after them say of it.
use mathlib.Core.Path.{◌≡◌, refl, sym, ap, subst, ◌∙◌}
use mathlib.Core.List.{List}
use mathlib.Core.Bool.{Bool}
use Prim.Native.Nat.{ℕ, ◌+◌, ◌-◌, ◌*◌, ◌≤◌, ◌<◌}
use native.Mathlib.Omega.{arith}
use native.Mathlib.Numerals.{add-one}
use lib.ListN.{length, get_or, take, drop, replicate, length-drop, length-take}
use Rattle.std.proofs.lemmas.List.{take_rest}
use lib.Seq.{drop_at, get_or-take, get_or-drop, ext_get_or}
use Rattle.std.specs.Bool.{Decides as Tells}
use Rattle.deciding.specs.Deciding.{Decides, true_not_false}
use Rattle.names.specs.Name.{IsName}
use Rattle.names.specs.Table.{slot_of}
use Rattle.names.specs.Leaves.{AllZero, Used, Says}
use Rattle.names.specs.Slots.{name_inside, name_in, slot_is, zero_at, zero_past}

-- A part of n elements, as the code has it.
pub part_of : (s : List ℕ) (a n : ℕ) → take (a + n - a) (drop a s) ≡ take n (drop a s)
part_of s a n = let e : a + n - a ≡ n = omega arith in ap (λ (m : ℕ). take m (drop a s)) e

-- What is 0 at each index below the length is 0 at each.
pub zero_within : (s : List ℕ) (b : Bool) → Decides ((i : ℕ) → i < length s → get_or s i 0 ≡ 0) b → Decides (AllZero s) b
zero_within s b d = record { yes = λ e. zero_past s (d.yes e); no = λ e z. d.no e (λ i l. z i) }

-- A slot whose first byte is a name's length says the name where its bytes are the name's.
pub says_where : (t : List ℕ) (k : ℕ) (name : List ℕ) (b : Bool) → Tells b (take (32 * k + 1 + length name - (32 * k + 1)) (drop (32 * k + 1) t) ≡ name)
    → get_or t (32 * k) 0 ≡ length name → 32 * k + 32 ≤ length t → length name < 32 → Decides (Says t k name) b
says_where t k name b d first room short = record { yes = λ e. yes (d.0 e); no = λ e s. true_not_false (d.1 (same s)) e }
  where
    part : List ℕ
    part = take (length name) (drop (32 * k + 1) t)

    is_part : take (32 * k + 1 + length name - (32 * k + 1)) (drop (32 * k + 1) t) ≡ part
    is_part = part_of t (32 * k + 1) (length name)

    byte : (i : ℕ) → i < length name → get_or part i 0 ≡ get_or t (32 * k + 1 + i) 0
    byte i l = get_or-take (length name) (drop (32 * k + 1) t) i 0 l ∙ get_or-drop (32 * k + 1) t i 0

    yes : take (32 * k + 1 + length name - (32 * k + 1)) (drop (32 * k + 1) t) ≡ name → Says t k name
    yes e = record { size = first; bytes = λ i l. sym (byte i l) ∙ ap (λ (x : List ℕ). get_or x i 0) (sym is_part ∙ e) }

    same : Says t k name → take (32 * k + 1 + length name - (32 * k + 1)) (drop (32 * k + 1) t) ≡ name
    same s =
        let size : length part ≡ length name = simp (length-take, length-drop) (omega arith) in
        is_part ∙ ext_get_or 0 part name size (λ i l. byte i (omega arith) ∙ s.bytes i (omega arith))

first_is : (name : List ℕ) → get_or (slot_of name) 0 0 ≡ length name
unfolding slot_of
first_is name = refl

after_name : (name : List ℕ) (i : ℕ) → get_or (drop (length name + 1) (slot_of name)) i 0 ≡ 0
unfolding slot_of
after_name name i =
    rw (add-one, drop_at name (replicate (31 - length name) 0) (length name) refl) (zero_at (31 - length name) i)

module _ (s : List ℕ) (size : length s ≡ 32) (n : ℕ) (first : n ≡ get_or s 0 0) where
  length_is : (u : Used s) → n ≡ length u.name
  length_is u = first ∙ ap (λ (x : List ℕ). get_or x 0 0) u.written ∙ first_is u.name

  pub too_long : 32 ≤ n → Used s → ⊥
  too_long h u = let short = u.named.short in omega (arith, length_is u)

  pub name_is : (u : Used s) → take (n + 1 - 1) (drop 1 s) ≡ u.name
  name_is u =
      let e : n + 1 - 1 ≡ get_or s 0 0 = omega arith in
      ap (λ (m : ℕ). take m (drop 1 s)) e ∙ ap name_inside u.written ∙ name_in u.name

  pub no_name : (IsName (take (n + 1 - 1) (drop 1 s)) → ⊥) → Used s → ⊥
  no_name f u = f (subst IsName (sym (name_is u)) u.named)

  zeros_after : Used s → AllZero (take (length s - (n + 1)) (drop (n + 1) s))
  zeros_after u i =
      ap (λ (x : List ℕ). get_or x i 0) (take_rest s (n + 1) ∙ ap (drop (n + 1)) u.written ∙ ap (λ (m : ℕ). drop (m + 1) (slot_of u.name)) (length_is u)) ∙ after_name u.name i

  module _ (short : n < 32) (named : IsName (take (n + 1 - 1) (drop 1 s))) where
    made : AllZero (take (length s - (n + 1)) (drop (n + 1) s)) → Used s
    made z =
        let e : n + 1 - 1 ≡ n = omega arith in
        let part = ap (λ (m : ℕ). take m (drop 1 s)) e in
        record {
          name = take n (drop 1 s);
          named = subst IsName part named;
          written = slot_is s n size (sym first) (omega arith) (λ i. ap (λ (x : List ℕ). get_or x i 0) (sym (take_rest s (n + 1))) ∙ z i);
        }

    pub used_if : (b : Bool) → Decides (AllZero (take (length s - (n + 1)) (drop (n + 1) s))) b → Decides (Used s) b
    used_if b d = record { yes = λ e. made (d.yes e); no = λ e u. d.no e (zeros_after u) }
