-- How long a listing can be: a text of 65,536 bytes has room for it. And how many cells are read.
use Rattle.std.specs.Prelude.{◌≡◌, refl, List, [], ◌∷◌, ◌++◌, Bool, true, false, ℕ, zero, suc, ◌+◌, ◌*◌, ◌/◌, ◌%◌, ◌^◌, ◌≤◌, ◌<◌, ltb, length}
use Rattle.std.proofs.Common.{ap, ◌∙◌, pow-suc, arith, ltb-true, ltb-false, length-append}
use Rattle.commands.specs.Records.{Record, written}
use Rattle.listing.specs.Listing.{decimal, hex_cell, hex_cells, space, newline, record_line, record_lines, header, stop_line, listing, cells_in}
use Rattle.listing.specs.Digits.{one_digit, more_digits}
use Rattle.listing.specs.Reading.{Sound, none, more}

-- a number below 10 ^ k has at most k digits
module _ (n : ℕ) where
  one : n < 10 → length (decimal n) ≤ 1
  one h = omega (arith, ap length (one_digit n h))

  next : (k : ℕ) → length (decimal (n / 10)) ≤ k → 10 ≤ n → length (decimal n) ≤ suc k
  next k h i = omega (arith, ap length (more_digits n i) ∙ length-append (decimal (n / 10)) ((48 + n % 10) ∷ []))

short : (k n : ℕ) → n < 10 ^ suc k → length (decimal n) ≤ suc k
short zero n h = one n (omega (arith, h))
short (suc k) n h = by (ltb n 10) refl (short k (n / 10) (omega (arith, h, pow-suc 10 (suc k))))
  where
    by : (b : Bool) → ltb n 10 ≡ b → length (decimal (n / 10)) ≤ suc k → length (decimal n) ≤ suc (suc k)
    by true t s = let i = one n (ltb-true n 10 t) in omega arith
    by false t s = next n (suc k) s (ltb-false n 10 t)

pub four_digits : (n : ℕ) → n < 10000 → length (decimal n) ≤ 4
four_digits n h = short 3 n h

two_digits : (n : ℕ) → n < 100 → length (decimal n) ≤ 2
two_digits n h = short 1 n h

-- any number of 64 bits
twenty_digits : (n : ℕ) → n < 18446744073709551616 → length (decimal n) ≤ 20
twenty_digits n h = short 19 n (omega arith)

cells_size : (cells : List ℕ) → length (hex_cells cells) ≡ 5 * length cells
unfolding hex_cells
cells_size [] = refl
cells_size (c ∷ cells) = omega (arith, length-append (space ++ hex_cell c) (hex_cells cells), cells_size cells)

-- 13 bytes for a record's first cell, and 5 for a further one
line_size : (position : ℕ) (r : Record) → position < 10000 → r.refusal < 16 → length r.cells < 4096 → length (record_line position r) ≤ 13 + 5 * length r.cells
line_size position r h i j =
    let a = decimal position in
    let b = decimal r.refusal in
    let c = decimal (length r.cells) in
    let d = hex_cells r.cells in
    omega (
      arith,
      four_digits position h,
      two_digits r.refusal (omega arith),
      four_digits (length r.cells) (omega arith),
      cells_size r.cells,
      length-append (a ++ space ++ b ++ space ++ c ++ d) newline,
      length-append (a ++ space ++ b ++ space ++ c) d,
      length-append (a ++ space ++ b ++ space) c,
      length-append (a ++ space ++ b) space,
      length-append (a ++ space) b,
      length-append a space,
    )

lines_size : (position : ℕ) {rs : List Record} → Sound rs → position + length (written rs) ≤ 10000 → length (record_lines position rs) ≤ 13 * length (written rs)
unfolding record_lines written
lines_size position none h = omega arith
lines_size position (more {r} {rs} i j s) h =
    let e = length-append r.cells (written rs) in
    omega (
      arith,
      e,
      length-append (record_line position r) (record_lines (position + 1) rs),
      line_size position r (omega arith) i j,
      lines_size (position + 1) s (omega arith),
    )

stop_size : (stop used n : ℕ) → stop < 18446744073709551616 → used < 18446744073709551616 → n ≤ 4096 → length (stop_line stop used n) ≤ 65
stop_size stop used n h i j =
    let a : List ℕ = 115 ∷ 116 ∷ 111 ∷ 112 ∷ 32 ∷ [] in
    let b : List ℕ = 32 ∷ 117 ∷ 115 ∷ 101 ∷ 100 ∷ 32 ∷ [] in
    let c : List ℕ = 32 ∷ 119 ∷ 114 ∷ 105 ∷ 116 ∷ 116 ∷ 101 ∷ 110 ∷ 32 ∷ [] in
    omega (
      arith,
      twenty_digits stop h,
      twenty_digits used i,
      four_digits n (omega arith),
      length-append (a ++ decimal stop ++ b ++ decimal used ++ c ++ decimal n) newline,
      length-append (a ++ decimal stop ++ b ++ decimal used ++ c) (decimal n),
      length-append (a ++ decimal stop ++ b ++ decimal used) c,
      length-append (a ++ decimal stop ++ b) (decimal used),
      length-append (a ++ decimal stop) b,
      length-append a (decimal stop),
    )

pub listing_size : {rs : List Record} (stop used : ℕ) → Sound rs → length (written rs) ≤ 4096 → stop < 18446744073709551616 → used < 18446744073709551616
    → length (listing rs stop used (length (written rs))) ≤ 65536
unfolding listing
listing_size {rs} stop used s h i j =
    omega (
      arith,
      length-append (header ++ record_lines 1 rs) (stop_line stop used (length (written rs))),
      length-append header (record_lines 1 rs),
      lines_size 1 s (omega arith),
      stop_size stop used (length (written rs)) i j h,
    )

-- a cell for each pair of bytes
pub cells_in_size : (bytes : List ℕ) → length (cells_in bytes) ≡ length bytes / 2
unfolding cells_in
cells_in_size [] = refl
cells_in_size (high ∷ []) = refl
cells_in_size (high ∷ low ∷ bytes) = omega (arith, cells_in_size bytes)
