-- Each call's promise allows one outcome. It all rests on one law: a table holds one list of names.
use Rattle.std.specs.Prelude.{◌≡◌, refl, List, [], ◌∷◌, ◌++◌, ℕ, ◌*◌, length, get_or, take, drop, replicate, Option, Result, Ok, Err}
use Rattle.std.proofs.Common.{sym, ap, ap₂, ◌∙◌, append_assoc, arith, take_at, drop_at}
use Rattle.std.proofs.lemmas.List.{length-replicate}
use Rattle.std.specs.Result.{result_err}
use Rattle.names.specs.Name.{IsName}
use Rattle.names.specs.Table.{Named, slot_of, slots_of, Holds, Passes}
use Rattle.names.specs.Cases.{leaves}
use Rattle.names.specs.Calls.{entry_in, Enters, entered, no_table, table_after, Entry, Refusal, PartOf, bad_table, no_number, at, Part, NameIs, NameRefused, start_of_part, size_of_part, Counted, Checks}
use Rattle.names.specs.Slots.{named_rest, slot_length, slot_once, zero_at}

-- A used slot's first byte is its name's length, which is not 0.
starts : (name rest : List ℕ) → get_or (slot_of name ++ rest) 0 0 ≡ length name
unfolding slot_of
starts name rest = refl

-- A table that begins with a name isn't all zero.
not_zero : (name : List ℕ) (names : List (List ℕ)) (f g : ℕ) → IsName name → slots_of (name ∷ names) ++ replicate (32 * f) 0 ≡ replicate (32 * g) 0 → ⊥
unfolding slots_of
not_zero name names f g n e =
    let rest = slots_of names ++ replicate (32 * f) 0 in
    let some = n.some in
    let whole = sym (append_assoc (slot_of name) (slots_of names) (replicate (32 * f) 0)) ∙ e in
    let none : length name ≡ 0 = sym (starts name rest) ∙ ap (λ (l : List ℕ). get_or l 0 0) whole ∙ zero_at (32 * g) 0 in
    omega arith

slots_once : (a b : List (List ℕ)) (f g : ℕ) → Named a → Named b → slots_of a ++ replicate (32 * f) 0 ≡ slots_of b ++ replicate (32 * g) 0 → (a ≡ b) × (f ≡ g)
unfolding slots_of
slots_once [] [] f g n m e = (refl, omega (arith, ap length e, length-replicate {A = ℕ} (32 * f) 0, length-replicate {A = ℕ} (32 * g) 0))
slots_once (x ∷ a) [] f g n m e = absurd (not_zero x a f g (n 0 (omega arith)) e)
slots_once [] (y ∷ b) f g n m e = absurd (not_zero y b g f (m 0 (omega arith)) (sym e))
slots_once (x ∷ a) (y ∷ b) f g n m e =
    let lx = slot_length x (n 0 (omega arith)).short in
    let ly = slot_length y (m 0 (omega arith)).short in
    let ra = slots_of a ++ replicate (32 * f) 0 in
    let rb = slots_of b ++ replicate (32 * g) 0 in
    let d : slot_of x ++ ra ≡ slot_of y ++ rb = sym (append_assoc (slot_of x) (slots_of a) (replicate (32 * f) 0)) ∙ e ∙ append_assoc (slot_of y) (slots_of b) (replicate (32 * g) 0) in
    let same : x ≡ y = slot_once x y (sym (take_at (slot_of x) ra 32 lx) ∙ ap (take 32) d ∙ take_at (slot_of y) rb 32 ly) in
    let rest = slots_once a b f g (named_rest x a n) (named_rest y b m) (sym (drop_at (slot_of x) ra 32 lx) ∙ ap (drop 32) d ∙ drop_at (slot_of y) rb 32 ly) in
    let equal = rest.0 in
    (cc, rest.1)

module _ {t : List ℕ} {a b : List (List ℕ)} {f g : ℕ} (h : Holds t a f) (k : Holds t b g) where
  pub names_once : a ≡ b
  names_once = (slots_once a b f g h.named k.named (sym h.written ∙ k.written)).0

  pub free_once : f ≡ g
  free_once = (slots_once a b f g h.named k.named (sym h.written ∙ k.written)).1

pub passes : {t : List ℕ} {a : List (List ℕ)} {f : ℕ} → Holds t a f → Passes t
passes {t} {a} {f} h = record { names = a; free = f; holds = h }

pub enters_once : {t name : List ℕ} (a b : Result Entry Refusal) (s u : List ℕ) → Enters t name a s → Enters t name b u → (a ≡ b) × (s ≡ u)
enters_once {t} {name} a b s u p q = let e = same_answer p q in (e, leaves p ∙ ap (table_after t name) e ∙ sym (leaves q))
  where
    same_answer : Enters t name a s → Enters t name b u → a ≡ b
    same_answer (entered h e l) (entered i f m) = e ∙ ap₂ (λ (x : List (List ℕ)) (z : ℕ). entry_in x z name) (names_once h i) (free_once h i) ∙ sym f
    same_answer (entered h e l) (no_table f g m) = absurd (f (passes h))
    same_answer (no_table f e l) (entered h g m) = absurd (f (passes h))
    same_answer (no_table f e l) (no_table g h m) = e ∙ sym h

pub part_once : {t : List ℕ} {number : ℕ} (p q : Result Part Refusal) → PartOf t number p → PartOf t number q → p ≡ q
part_once p q (bad_table f) (bad_table g) = refl
part_once p q (bad_table f) (no_number h l) = absurd (f (passes h))
part_once p q (bad_table f) (at h l s z) = absurd (f (passes h))
part_once p q (no_number h l) (bad_table f) = absurd (f (passes h))
part_once p q (no_number h l) (no_number i m) = refl
part_once p q (no_number h l) (at i m s z) = absurd (omega (arith, ap length (names_once h i)))
part_once p q (at h l s z) (bad_table f) = absurd (f (passes h))
part_once p q (at h l s z) (no_number i m) = absurd (omega (arith, ap length (names_once h i)))
part_once {t} {number} p q (at {part = part} h l s z) (at {part = part'} i m u y) =
    let starts : part.start ≡ part'.start = s ∙ sym u in
    let sizes : part.size ≡ part'.size = z ∙ ap (λ (names : List (List ℕ)). length (get_or names number [])) (names_once h i) ∙ sym y in
    ap₂ (λ (m n : ℕ). Ok (record { start = m; size = n })) starts sizes

pub name_once : {t : List ℕ} {number : ℕ} (a b : List ℕ) → NameIs t number a → NameIs t number b → a ≡ b
name_once {t} a b p q =
    p.name_is ∙ ap (λ (x : Result Part Refusal). take (size_of_part x) (drop (start_of_part x) t)) (part_once p.part q.part p.stands q.stands) ∙ sym q.name_is

pub refused_once : {t : List ℕ} {number : ℕ} (a b : Option Refusal) → NameRefused t number a → NameRefused t number b → a ≡ b
refused_once a b p q = p.refusal_is ∙ ap result_err (part_once p.part q.part p.stands q.stands) ∙ sym q.refusal_is

pub checks_once : (t : List ℕ) (a b : Result Counted Refusal) → Checks t a → Checks t b → a ≡ b
checks_once t (Err r) (Err s) p q = ap Err (p.1 ∙ sym q.1)
checks_once t (Err r) (Ok k) p q = absurd (p.0 (passes q.holds))
checks_once t (Ok k) (Err r) p q = absurd (q.0 (passes p.holds))
checks_once t (Ok j) (Ok k) p q =
    let counts : j.held ≡ k.held = sym p.count ∙ ap length (names_once p.holds q.holds) ∙ q.count in
    let rooms : j.free ≡ k.free = free_once p.holds q.holds in
    ap₂ (λ (m n : ℕ). Ok (record { held = m; free = n })) counts rooms
