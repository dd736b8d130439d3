-- The records that stand in cells, one at a time; and that records written one after another are read as they were.
use Rattle.std.specs.Prelude.{◌≡◌, refl, List, [], ◌∷◌, ◌++◌, ℕ, zero, suc, ◌+◌, ◌*◌, ◌/◌, ◌%◌, ◌≤◌, ◌<◌, length, take, drop, get_or}
use Rattle.std.proofs.Common.{ap, ◌∙◌, arith, length-append, length-drop, get_or-append-add}
use Rattle.std.proofs.Math.Seq.{take-append_seam, drop-append_seam}
use Rattle.commands.specs.Records.{Record, written}
use Rattle.listing.specs.Listing.{records_by, records_in}

-- more fuel changes nothing
same_records : (f g : ℕ) (cells : List ℕ) → length cells ≤ f → length cells ≤ g → records_by f cells ≡ records_by g cells
unfolding records_by
same_records zero zero cells h i = refl
same_records zero (suc g) [] h i = refl
same_records zero (suc g) (c ∷ cells) h i = absurd (omega arith)
same_records (suc f) zero [] h i = refl
same_records (suc f) zero (c ∷ cells) h i = absurd (omega arith)
same_records (suc f) (suc g) [] h i = refl
same_records (suc f) (suc g) (c ∷ cells) h i =
    let e = length-drop (c % 4096) cells in
    ap (λ (rs : List Record). record { refusal = c / 4096; cells = take (c % 4096) cells } ∷ rs) (same_records f g (drop (c % 4096) cells) (omega arith) (omega arith))

-- The first record, and the others.
pub first_record : (c : ℕ) (cells : List ℕ) → records_in (c ∷ cells) ≡ record { refusal = c / 4096; cells = take (c % 4096) cells } ∷ records_in (drop (c % 4096) cells)
unfolding records_by
first_record c cells =
    ap (λ (rs : List Record). record { refusal = c / 4096; cells = take (c % 4096) cells } ∷ rs)
    (same_records (length cells) (length (drop (c % 4096) cells)) (drop (c % 4096) cells) (omega (arith, length-drop (c % 4096) cells)) (omega arith))

-- What fits in a record: 4 bits of refusal, 12 bits of count.
pub data Sound : List Record → Type 0 where
  none : Sound []
  more : {r : Record} {rs : List Record} → r.refusal < 16 → length r.cells < 4096 → Sound rs → Sound (r ∷ rs)

pub reads_written : {rs : List Record} → Sound rs → records_in (written rs) ≡ rs
unfolding written records_by
reads_written none = refl
reads_written (more {r} {rs} h i s) =
    let n = length r.cells in
    let c = 4096 * r.refusal + n in
    let refusal : c / 4096 ≡ r.refusal = omega arith in
    let count : c % 4096 ≡ n = omega arith in
    first_record c (r.cells ++ written rs)
    ∙ ap (λ (k : ℕ). record { refusal = c / 4096; cells = take k (r.cells ++ written rs) } ∷ records_in (drop k (r.cells ++ written rs))) count
    ∙ made (c / 4096) (take n (r.cells ++ written rs)) (drop n (r.cells ++ written rs)) refusal (take-append_seam r.cells (written rs))
    (drop-append_seam r.cells (written rs))
    ∙ ap (λ (l : List Record). r ∷ l) (reads_written s)
  where
    made : (k : ℕ) (taken left : List ℕ) → k ≡ r.refusal → taken ≡ r.cells → left ≡ written rs
        → record { refusal = k; cells = taken } ∷ records_in left ≡ r ∷ records_in (written rs)
    made k taken left a b d = ap (λ (k : ℕ). record { refusal = k; cells = taken } ∷ records_in left) a
        ∙ ap (λ (l : List ℕ). record { refusal = r.refusal; cells = l } ∷ records_in left) b ∙ ap (λ (l : List ℕ). r ∷ records_in l) d

-- Cells of 16 bits, at most 4,096 of them: whatever records they are, each fits.
pub sound : (rs : List Record) → length (written rs) ≤ 4096 → ((i : ℕ) → get_or (written rs) i 0 < 65536) → Sound rs
unfolding written
sound [] h small = none
sound (r ∷ rs) h small =
    let e = length-append r.cells (written rs) in
    more {r = r} (omega (arith, small 0)) (omega arith)
    (sound rs (omega arith) (λ i. omega (arith, small (suc (length r.cells + i)), get_or-append-add r.cells (written rs) i 0)))
