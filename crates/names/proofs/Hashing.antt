-- The hash, turn by turn.
use mathlib.Core.Path.{◌≡◌}
use mathlib.Core.List.{List}
use Prim.Native.Nat.{ℕ, ◌+◌, ◌*◌, ◌%◌, ◌≤◌, ◌<◌}
use native.Mathlib.Numerals.{add-one}
use lib.ListN.{length, get_or, drop, drop_of_length-le}
use lib.Seq.{drop-cons}
use Rattle.names.specs.Index.{hash_from}

module _ (bytes : List ℕ) (h i : ℕ) where
  pub hash_turn : (b : ℕ) → b ≡ get_or bytes i 0 → i < length bytes → hash_from ((h * 37 + b) % 32768) (drop (i + 1) bytes) ≡ hash_from h (drop i bytes)
  unfolding hash_from
  hash_turn b e l = rw (add-one, drop-cons bytes i 0 l, e)

  pub hash_end : length bytes ≤ i → hash_from h (drop i bytes) ≡ h
  unfolding hash_from
  hash_end l = rw (drop_of_length-le bytes l)
