-- The hex digits of a cell are those that the library writes of its two bytes.
use Rattle.std.specs.Prelude.{◌≡◌, ℕ, ◌/◌, ◌%◌, ◌<◌, slice_index}
use Rattle.std.proofs.Common.{ap, ◌∙◌, arith}
use Rattle.std.specs.Int.{w16, to_be_bytes, byte_at}
use Rattle.std.proofs.lemmas.List.FromFn.{get_or-map-range_with_len}
use Rattle.hex.specs.Hex.{encode_with, encode_lower, lower_digits}
use Rattle.listing.specs.Listing.{hex_digit_of, hex_cell}

digit : (d e : ℕ) → e < 16 → d ≡ e → slice_index lower_digits d ≡ hex_digit_of e
digit d e h s = ap (slice_index lower_digits) s ∙ get_or-map-range_with_len hex_digit_of 0 16 e e 0 h (omega arith)

pub hexed : (c : ℕ) → c < 65536 → encode_lower (to_be_bytes w16 c) ≡ hex_cell c
unfolding encode_with
hexed c h =
    let a = digit (byte_at 1 c / 16) (c / 4096 % 16) (omega arith) (omega arith) in
    let b = digit (byte_at 1 c % 16) (c / 256 % 16) (omega arith) (omega arith) in
    let d = digit (byte_at 0 c / 16) (c / 16 % 16) (omega arith) (omega arith) in
    let e = digit (byte_at 0 c % 16) (c % 16) (omega arith) (omega arith) in
    cc
