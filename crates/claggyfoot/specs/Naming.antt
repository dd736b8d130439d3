-- Exactly when a name call refuses, read off its promise case by case.
use Rattle.std.specs.Prelude.{◌≡◌, refl, List, [], ℕ, ◌*◌, ◌+◌, ◌≤◌, ◌<◌, length, get_or, Result, Ok, Err}
use Rattle.std.proofs.Common.{sym, ap, ◌∙◌, arith}
use Rattle.names.specs.Name.{IsName}
use Rattle.names.specs.Table.{Holds, Passes, Missing, put}
use Rattle.names.specs.Cases.{Given, failing, no_name, held, new, no_slot, leaves}
use Rattle.names.specs.Calls.{refusal_of_entry, number_of_entry, table_after, PartOf, bad_table, no_number, at, refusal_of_part, start_of_part, size_of_part}
use Rattle.names.specs.declared.Entry.{Entry}
use Rattle.names.specs.declared.Entry.TheVariants.{Held, New}
use Rattle.names.specs.declared.Part.{Part}
use Rattle.names.specs.declared.refusal.Refusal.{Refusal}
use Rattle.names.specs.declared.refusal.Refusal.TheVariants.{NoTable, NoName, NoSlot, NoNumber}
use Rattle.names.specs.Once.{part_once}
use Rattle.names.proofs.Cases.{given}
use Rattle.names.proofs.Once.{given_once}
use Rattle.claggyfoot.specs.Calls.{Exactly}
use Rattle.claggyfoot.specs.Numbers.{EntersNumbers, PartNumbers}

-- ---- entering a name

module _ {before name : List ℕ} {refusal number : ℕ} {after : List ℕ} (call : EntersNumbers before name refusal number after) where
  -- The call gave this answer: its numbers, and every byte of the table.
  pub record Gave (r k : ℕ) (table : List ℕ) : Type 0 where
    pub refusal_is : refusal ≡ r
    pub number_is : number ≡ k
    pub table_is : after ≡ table

  gave : (a : Result Entry Refusal) → Given before name a → Gave (refusal_of_entry a) (number_of_entry a) (table_after before name a)
  gave a g =
      let e = given_once call.answer a (given call.enters) g in
      record {
        refusal_is = call.refusal_is ∙ ap refusal_of_entry e;
        number_is = call.number_is ∙ ap number_of_entry e;
        table_is = leaves call.enters ∙ ap (table_after before name) e;
      }

  -- with this refusal the answer has its condition
  only : (r : ℕ) (P : Type 0) → ((a : Result Entry Refusal) → Given before name a → refusal_of_entry a ≡ r → P) → refusal ≡ r → P
  only r P f e = f call.answer (given call.enters) (sym call.refusal_is ∙ e)

  refuses : (a : Result Entry Refusal) {P : Type 0} → (P → Given before name a) → ((b : Result Entry Refusal) → Given before name b → refusal_of_entry b ≡ refusal_of_entry a → P)
      → Exactly (refusal ≡ refusal_of_entry a) P (Gave (refusal_of_entry a) (number_of_entry a) (table_after before name a))
  refuses a {P} f h = ((only (refusal_of_entry a) P h, λ p. (gave a (f p)).refusal_is), λ p. gave a (f p))

  pub enter_1 : Exactly (refusal ≡ 1) (¬ (Passes before)) (Gave 1 0 before)
  enter_1 = refuses (Err NoTable) failing to
    where
      to : (b : Result Entry Refusal) → Given before name b → refusal_of_entry b ≡ 1 → ¬ (Passes before)
      to b (failing f) e = f
      to b (no_name p n) e = absurd (omega arith)
      to b (held h l q) e = absurd (omega arith)
      to b (new h n m z q) e = absurd (omega arith)
      to b (no_slot h n m) e = absurd (omega arith)

  pub enter_11 : Exactly (refusal ≡ 11) (Passes before × ¬ (IsName name)) (Gave 11 0 before)
  enter_11 = refuses (Err NoName) (λ x. no_name x.0 x.1) to
    where
      to : (b : Result Entry Refusal) → Given before name b → refusal_of_entry b ≡ 11 → Passes before × ¬ (IsName name)
      to b (failing f) e = absurd (omega arith)
      to b (no_name p n) e = (p, n)
      to b (held h l q) e = absurd (omega arith)
      to b (new h n m z q) e = absurd (omega arith)
      to b (no_slot h n m) e = absurd (omega arith)

  pub enter_12 : Exactly (refusal ≡ 12) ((names : List (List ℕ)) × Holds before names 0 × IsName name × Missing names name) (Gave 12 0 before)
  enter_12 = refuses (Err NoSlot) (λ x. no_slot x.1 x.2 x.3) to
    where
      to : (b : Result Entry Refusal) → Given before name b → refusal_of_entry b ≡ 12 → (names : List (List ℕ)) × Holds before names 0 × IsName name × Missing names name
      to b (failing f) e = absurd (omega arith)
      to b (no_name p n) e = absurd (omega arith)
      to b (held h l q) e = absurd (omega arith)
      to b (new h n m z q) e = absurd (omega arith)
      to b (no_slot {names} h n m) e = (names, h, n, m)

  -- not refused: the name is held, in a full table too; or it is new, and written over the first free slot
  pub enter_held : (names : List (List ℕ)) (free k : ℕ) → Holds before names free → k < length names → get_or names k [] ≡ name → Gave 0 k before
  enter_held names free k h l e = gave (Ok (Held k)) (held h l e)

  pub enter_new : (names : List (List ℕ)) (free : ℕ) → Holds before names free → IsName name → Missing names name → 0 < free
      → Gave 0 (length names) (put before (length names) name)
  enter_new names free h n m z = gave (Ok (New (length names))) (new h n m z refl)

-- ---- the name of a number

module _ {table : List ℕ} {number refusal start size : ℕ} (call : PartNumbers table number refusal start size) where
  pub record Told (r from bytes : ℕ) : Type 0 where
    pub refusal_is : refusal ≡ r
    pub start_is : start ≡ from
    pub size_is : size ≡ bytes

  told : (p : Result Part Refusal) → PartOf table number p → Told (refusal_of_part p) (start_of_part p) (size_of_part p)
  told p s =
      let e = part_once call.part p call.stands s in
      record { refusal_is = call.refusal_is ∙ ap refusal_of_part e; start_is = call.start_is ∙ ap start_of_part e; size_is = call.size_is ∙ ap size_of_part e }

  pub name_of_1 : Exactly (refusal ≡ 1) (¬ (Passes table)) (Told 1 0 0)
  name_of_1 = (((λ e. to call.part call.stands (sym call.refusal_is ∙ e)), (λ f. (told (Err NoTable) (bad_table f)).refusal_is)), (λ f. told (Err NoTable) (bad_table f)))
    where
      to : (p : Result Part Refusal) → PartOf table number p → refusal_of_part p ≡ 1 → ¬ (Passes table)
      to p (bad_table f) e = f
      to p (no_number h l) e = absurd (omega arith)
      to p (at h l s z) e = absurd (omega arith)

  pub name_of_13 : Exactly (refusal ≡ 13) ((names : List (List ℕ)) × (free : ℕ) × Holds table names free × (length names ≤ number)) (Told 13 0 0)
  name_of_13 = (((λ e. to call.part call.stands (sym call.refusal_is ∙ e)), (λ x. (all x).refusal_is)), all)
    where
      all : (names : List (List ℕ)) × (free : ℕ) × Holds table names free × (length names ≤ number) → Told 13 0 0
      all x = told (Err NoNumber) (no_number x.2 x.3)

      to : (p : Result Part Refusal) → PartOf table number p → refusal_of_part p ≡ 13 → (names : List (List ℕ)) × (free : ℕ) × Holds table names free × (length names ≤ number)
      to p (bad_table f) e = absurd (omega arith)
      to p (no_number {names} {free} h l) e = (names, free, h, l)
      to p (at h l s z) e = absurd (omega arith)

  pub name_of_held : (names : List (List ℕ)) (free : ℕ) → Holds table names free → number < length names → Told 0 (32 * number + 1) (length (get_or names number []))
  name_of_held names free h l = told (Ok (record { start = 32 * number + 1; size = length (get_or names number []) })) (at h l refl refl)
