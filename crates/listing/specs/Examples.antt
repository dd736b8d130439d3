-- Small examples, by computation: digits, cells, and lines of the listing in Reference 11.
use Rattle.std.specs.Prelude.{◌≡◌, refl, [], ◌∷◌}
use Rattle.listing.specs.Listing.{digits, decimal, hex_cell, hex_cells, record_line, cells_in}

zero_is_0 : decimal 0 ≡ 48 ∷ []
unfolding digits
zero_is_0 = refl

no_leading_zeros : decimal 4096 ≡ 52 ∷ 48 ∷ 57 ∷ 54 ∷ []
unfolding digits
no_leading_zeros = refl

four_lower_case_digits : hex_cell 2748 ≡ 48 ∷ 97 ∷ 98 ∷ 99 ∷ []
four_lower_case_digits = refl

-- `4 0 2 0005 0009`
fourth_line : record_line 4 (record { refusal = 0; cells = 5 ∷ 9 ∷ [] }) ≡ 52 ∷ 32 ∷ 48 ∷ 32 ∷ 50 ∷ 32 ∷ 48 ∷ 48 ∷ 48 ∷ 53 ∷ 32 ∷ 48 ∷ 48 ∷ 48 ∷ 57 ∷ 10 ∷ []
unfolding digits hex_cells
fourth_line = refl

-- `7 7 0`
seventh_line : record_line 7 (record { refusal = 7; cells = [] }) ≡ 55 ∷ 32 ∷ 55 ∷ 32 ∷ 48 ∷ 10 ∷ []
unfolding digits hex_cells
seventh_line = refl

-- `2001 8000`
high_byte_first : cells_in (32 ∷ 1 ∷ 128 ∷ 0 ∷ []) ≡ 8193 ∷ 32768 ∷ []
unfolding cells_in
high_byte_first = refl
