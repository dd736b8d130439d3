-- What the call that puts a whole listing promises.
use Rattle.std.specs.Prelude.{◌≡◌, List, ℕ, ◌≤◌, ◌<◌, length, get_or}
use Rattle.std.proofs.Common.{ap, ap₂, subst, ◌∙◌, arith}
use Rattle.commands.specs.Records.{Record, written}
use Rattle.listing.specs.Listing.{listing, records_in}
use Rattle.writing.specs.Writing.{Puts, Front, stand, same_bytes}
use Rattle.listing.specs.Reading.{sound, reads_written}
use Rattle.listing.specs.Sizes.{listing_size}

-- For any cells and any room, the listing of the records that are read in the cells is put. Where the cells are records
-- written one after another, at most 4,096 cells, these are the records; and 65,536 bytes are room enough.
pub record Lists (cells text after : List ℕ) (stop used end : ℕ) : Type 0 where
  pub put : Puts (listing (records_in cells) stop used (length cells)) text 0 after end
  pub stands : (rs : List Record) → cells ≡ written rs → length cells ≤ 4096 → 65536 ≤ length text → Front (listing rs stop used (length (written rs))) text after end

-- The first half is enough, for cells of 16 bits and numbers of 64.
pub lists : {cells text after : List ℕ} {stop used end : ℕ} → ((i : ℕ) → get_or cells i 0 < 65536) → stop < 18446744073709551616 → used < 18446744073709551616
    → Puts (listing (records_in cells) stop used (length cells)) text 0 after end → Lists cells text after stop used end
lists {cells} {text} {after} {stop} {used} {end} small h i p = record { put = p; stands = λ rs e few room. whole rs e few room }
  where
    whole : (rs : List Record) → cells ≡ written rs → length cells ≤ 4096 → 65536 ≤ length text → Front (listing rs stop used (length (written rs))) text after end
    whole rs e few room =
        let n = ap length e in
        let s = sound rs (omega arith) (subst (λ (l : List ℕ). (k : ℕ) → get_or l k 0 < 65536) e small) in
        let same : listing (records_in cells) stop used (length cells) ≡ listing rs stop used (length (written rs)) =
        ap₂ (λ (r : List Record) (k : ℕ). listing r stop used k) (ap records_in e ∙ reads_written s) n in
        let size = listing_size stop used s (omega arith) h i in
        stand (omega arith) (same_bytes same p)
