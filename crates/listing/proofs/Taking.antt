-- The record that stands at a place in the cells, as the code takes it: no more cells than there are.
use Rattle.std.proofs.Common.{◌≡◌, refl, sym, ap, ap₂, ◌∙◌, List, ◌∷◌, Bool, true, false, ℕ, ◌/◌, ◌%◌, min, arith, length, take, drop}
use Rattle.std.proofs.Math.ListN.{drop_of_length-le}
use Rattle.std.proofs.Math.Seq.{take_all, take-length, drop-length}
use Rattle.std.specs.Prelude.{leb}
use borrow.Author.Tests.{leb-true, leb-false}
use Rattle.listing.specs.Listing.{records_in}
use Rattle.listing.specs.Reading.{first_record}

-- taking and passing more cells than there are
at_most : (n : ℕ) (l : List ℕ) → (take n l ≡ take (min n (length l)) l) × (drop n l ≡ drop (min n (length l)) l)
at_most n l = cut (leb n (length l)) refl
  where
    cut : (b : Bool) → leb n (length l) ≡ b → (take n l ≡ take (min n (length l)) l) × (drop n l ≡ drop (min n (length l)) l)
    cut true t =
        let h = leb-true n (length l) t in
        let e : n ≡ min n (length l) = omega arith in
        (ap (λ (k : ℕ). take k l) e, ap (λ (k : ℕ). drop k l) e)
    cut false t =
        let h = leb-false n (length l) t in
        let e : length l ≡ min n (length l) = omega arith in (
          take_all n l (omega arith) ∙ sym (take-length l) ∙ ap (λ (k : ℕ). take k l) e,
          drop_of_length-le l {i = n} (omega arith) ∙ sym (drop-length l) ∙ ap (λ (k : ℕ). drop k l) e,
        )

-- the first record of some cells, where the code takes n cells, no more than there are
first_of : (first n : ℕ) (rest : List ℕ) → n ≡ min (first % 4096) (length rest)
    → records_in (first ∷ rest) ≡ record { refusal = first / 4096; cells = take n rest } ∷ records_in (drop n rest)
first_of first n rest e =
    let taken : take (first % 4096) rest ≡ take n rest = (at_most (first % 4096) rest).0 ∙ ap (λ (k : ℕ). take k rest) (sym e) in
    let left : drop (first % 4096) rest ≡ drop n rest = (at_most (first % 4096) rest).1 ∙ ap (λ (k : ℕ). drop k rest) (sym e) in
    first_record first rest ∙ ap₂ (λ (t l : List ℕ). record { refusal = first / 4096; cells = t } ∷ records_in l) taken left

-- the same where the code took it apart
pub record_at : {rest behind cells others : List ℕ} {first n refusal : ℕ} → rest ≡ first ∷ behind → n ≡ min (first % 4096) (length behind)
    → cells ≡ take n behind → others ≡ drop n behind → refusal ≡ first / 4096
    → records_in rest ≡ record { refusal = refusal; cells = cells } ∷ records_in others
record_at {behind = behind} {cells = cells} {others = others} {first = first} {n = n} {refusal = refusal} r e t o f =
    ap records_in r ∙ first_of first n behind e
    ∙ ap₂ (λ (k : ℕ) (l : List ℕ). record { refusal = k; cells = l } ∷ records_in (drop n behind)) (sym f) (sym t)
    ∙ ap (λ (l : List ℕ). record { refusal = refusal; cells = cells } ∷ records_in l) (sym o)
