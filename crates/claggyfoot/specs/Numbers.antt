-- The promises of the calls in the reference's numbers, where a call below answers a Result or a bool.
use Rattle.std.specs.Prelude.{◌≡◌, List, ℕ, Result}
use Rattle.std.proofs.Common.{sym, ap, ◌∙◌}
use Rattle.names.specs.declared.Entry.{Entry}
use Rattle.names.specs.declared.Part.{Part}
use Rattle.names.specs.declared.refusal.Refusal.{Refusal}
use Rattle.names.specs.Calls.{Enters, refusal_of_entry, number_of_entry, PartOf, refusal_of_part, start_of_part, size_of_part}
use Rattle.names.specs.Once.{enters_once, part_once}
use Rattle.book.specs.Memory.{Passing}

-- The promise of `cf_name_enter`: the numbers of an answer that `enter` gives, and the table after it.
pub record EntersNumbers (before name : List ℕ) (refusal number : ℕ) (after : List ℕ) : Type 0 where
  pub answer : Result Entry Refusal
  pub enters : Enters before name answer after
  pub refusal_is : refusal ≡ refusal_of_entry answer
  pub number_is : number ≡ number_of_entry answer

-- It allows one outcome.
pub record SameEntry (a b c d : ℕ) (s u : List ℕ) : Type 0 where
  pub refusal : a ≡ b
  pub number : c ≡ d
  pub after : s ≡ u

pub enters_numbers_once : {t name : List ℕ} (a b c d : ℕ) (s u : List ℕ) → EntersNumbers t name a c s → EntersNumbers t name b d u → SameEntry a b c d s u
enters_numbers_once a b c d s u p q =
    let e = enters_once p.answer q.answer s u p.enters q.enters in
    record {
      refusal = p.refusal_is ∙ ap refusal_of_entry e.0 ∙ sym q.refusal_is;
      number = p.number_is ∙ ap number_of_entry e.0 ∙ sym q.number_is;
      after = e.1;
    }

-- The promise of `cf_name_of`: the numbers of the answer that `part_of` gives.
pub record PartNumbers (table : List ℕ) (number refusal start size : ℕ) : Type 0 where
  pub part : Result Part Refusal
  pub stands : PartOf table number part
  pub refusal_is : refusal ≡ refusal_of_part part
  pub start_is : start ≡ start_of_part part
  pub size_is : size ≡ size_of_part part

-- It allows one outcome.
pub record SamePart (a b c d e f : ℕ) : Type 0 where
  pub refusal : a ≡ b
  pub start : c ≡ d
  pub size : e ≡ f

pub part_numbers_once : {t : List ℕ} {number : ℕ} (a b c d e f : ℕ) → PartNumbers t number a c e → PartNumbers t number b d f → SamePart a b c d e f
part_numbers_once a b c d e f p q =
    let same = part_once p.part q.part p.stands q.stands in
    record {
      refusal = p.refusal_is ∙ ap refusal_of_part same ∙ sym q.refusal_is;
      start = p.start_is ∙ ap start_of_part same ∙ sym q.start_is;
      size = p.size_is ∙ ap size_of_part same ∙ sym q.size_is;
    }

-- The promise of `cf_book_passes`.
pub data ChecksNumber (ws : List ℕ) (r : ℕ) : Type 0 where
  passing : Passing ws → r ≡ 0 → ChecksNumber ws r
  failing : ¬ (Passing ws) → r ≡ 1 → ChecksNumber ws r

-- It allows one outcome.
pub checks_number_once : (ws : List ℕ) (r s : ℕ) → ChecksNumber ws r → ChecksNumber ws s → r ≡ s
checks_number_once ws r s (passing p e) (passing q f) = e ∙ sym f
checks_number_once ws r s (passing p e) (failing q f) = absurd (q p)
checks_number_once ws r s (failing p e) (passing q f) = absurd (p q)
checks_number_once ws r s (failing p e) (failing q f) = e ∙ sym f
