-- The index of a table: 2,048 numbers, of which the first 1,024 say by bucket in which slot the last name of that bucket stands,
-- and the others by slot where the last one before it with the same bucket does. So a chain of slots goes down, and it ends.
use Rattle.std.specs.Prelude.{◌≡◌, List, [], ◌∷◌, ℕ, ◌+◌, ◌-◌, ◌*◌, ◌%◌, ◌≤◌, ◌<◌, length, get_or, take, drop, Result, Ok, Err}
use Prim.{Unit}
use Rattle.names.specs.Calls.{Counted, Refusal}

-- A small hash of bytes. That it is a function of the bytes is all that is used of it.
unfoldable pub hash_from : ℕ → List ℕ → ℕ
hash_from h [] = h
hash_from h (b ∷ bytes) = hash_from ((h * 37 + b) % 32768) bytes

-- The bucket of a name, and of the name in slot k.
abbrev pub bucket_of : List ℕ → ℕ
bucket_of name = hash_from 0 name % 1024

abbrev pub bucket_at : List ℕ → ℕ → ℕ
bucket_at table k = bucket_of (take (get_or table (32 * k) 0) (drop (32 * k + 1) table))

-- The last of the first n slots with a name of this bucket, counted from 1; 0 where none has one.
pub record Last (table : List ℕ) (n bucket last : ℕ) : Type 0 where
  pub within : last ≤ n
  pub here : 0 < last → bucket_at table (last - 1) ≡ bucket
  pub none : (k : ℕ) → last ≤ k → k < n → bucket_at table k ≡ bucket → ⊥

-- The index of the first `held` slots.
pub record Indexed (table : List ℕ) (held : ℕ) (index : List ℕ) : Type 0 where
  pub size : length index ≡ 2048
  pub most : held ≤ 1024
  pub inside : 32 * held ≤ length table
  pub heads : (h : ℕ) → h < 1024 → Last table held h (get_or index h 0)
  pub links : (k : ℕ) → k < held → Last table k (bucket_at table k) (get_or index (1024 + k) 0)

-- What `check_into` leaves in the index: that of a table that passes.
abbrev pub Indexes : (table index : List ℕ) → Result Counted Refusal → Type 0
Indexes table index (Ok counted) = Indexed table counted.held index
Indexes table index (Err refusal) = Unit {0}
