-- Places in a text, and bytes in a buffer of 32: what the functions promise.
use Rattle.std.specs.Prelude.{◌≡◌, List, ℕ, ◌≤◌, Result, Ok, Err, min, length, drop, take}
use Rattle.tokens.specs.Tokens.{Got}
pub use Rattle.tokens.specs.declared.Broken.{Broken}
pub use Rattle.tokens.specs.declared.Ended.{Ended}

-- From a place on, so much of the text is left.
pub record LeftFrom (text rest : List ℕ) (place : ℕ) : Type 0 where
  pub rest_is : drop place text ≡ rest
  pub within : place ≤ length text

-- The first bytes of a buffer are the first 32 of these.
pub record Keeps (buffer : List ℕ) (size : ℕ) (bytes : List ℕ) : Type 0 where
  pub size_is : size ≡ min 32 (length bytes)
  pub bytes_are : take size buffer ≡ take 32 bytes

-- The fault at a token's end, and the place after it or of the fault.
abbrev pub fault_of : Result ℕ Broken → ℕ
fault_of (Ok place) = 0
fault_of (Err broken) = 20

abbrev pub place_of : Result ℕ Broken → ℕ
place_of (Ok place) = place
place_of (Err broken) = broken.at

abbrev pub ended : (size : ℕ) → Result ℕ Broken → Ended
ended size end = record { size = size; end = end }

-- A token was read: how it ended, where, and its bytes in the buffer.
pub record TokenEnds (text buffer : List ℕ) (token : Got) (ended : Ended) : Type 0 where
  pub fault_is : fault_of ended.end ≡ token.fault
  pub left : LeftFrom text token.rest (place_of ended.end)
  pub keeps : Keeps buffer ended.size token.bytes
