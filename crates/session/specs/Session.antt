-- What the program prints for its input: Reference 11.
use Rattle.std.specs.Prelude.{List, ℕ, ◌%◌, ltb, eqb, length}
use Rattle.book.specs.Rules.{no_rules}
use Rattle.commands.specs.Records.{written}
use Rattle.batch.specs.Run.{Outcome, run}
use Rattle.deciding.specs.Deciding.{pick}
use Rattle.listing.specs.Listing.{listing, bad_input, cells_in}

abbrev pub listed : Outcome → List ℕ
listed o = listing o.records o.stop o.used (length (written o.records))

-- One batch on an empty book, with room for 4,096 output cells.
unfoldable pub answer : List ℕ → List ℕ
answer cells = listed (run no_rules cells 4096)

-- More than 8,192 bytes, or an odd count, are bad input.
unfoldable pub session : List ℕ → List ℕ
session input = pick (ltb 8192 (length input)) bad_input (pick (eqb (length input % 2) 0) (answer (cells_in input)) bad_input)
