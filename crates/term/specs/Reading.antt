-- Reading a term from cells: Reference 3.
use Rattle.std.specs.Prelude.{List, [], ◌∷◌, ℕ, zero, suc, ◌+◌, ◌-◌, ◌/◌, ltb, leb, Result, Ok, Err}
use Rattle.deciding.specs.Deciding.{pick}
pub use Rattle.term.specs.declared.reading.Fault.{Fault}
pub use Rattle.term.specs.declared.reading.Fault.TheVariants.{TooLong, CutShort, FieldSet, AboveFifteen, AboveCount}
pub use Rattle.term.specs.declared.reading.Wants.{Wants}
pub use Rattle.term.specs.declared.reading.Refused.{Refused}

-- The refusal number of each fault. The three faults of a variable have one number.
abbrev pub refusal_of : Fault → ℕ
refusal_of TooLong = 5
refusal_of CutShort = 3
refusal_of FieldSet = 4
refusal_of AboveFifteen = 4
refusal_of AboveCount = 4

-- What one cell does, and what is wrong at a place.
abbrev pub calls_for : (arity known : ℕ) → Result Wants Fault
calls_for arity known = Ok (record { arity = arity; known = known })

abbrev pub refused : Fault → (place : ℕ) → Result ℕ Refused
refused fault place = Err (record { fault = fault; place = place })

-- A variable with the number n, where the variables 0 to known - 1 have been met: an old one, the next new one, or a fault.
abbrev pub variable : (known n : ℕ) → Result Wants Fault
variable known n =
    pick (ltb 15 n) (Err AboveFifteen)
    (pick (ltb known n) (Err AboveCount)
    (pick (ltb n known) (calls_for 0 known) (calls_for 0 (n + 1))))

-- A cell: below 8000 a symbol, whose arity is its first hex digit; from 9000 on a bit of a variable's 3-bit field is set.
unfoldable pub takes : (known c : ℕ) → Result Wants Fault
takes known c =
    pick (ltb c 0x8000) (calls_for (c / 4096) known)
    (pick (leb 0x9000 c) (Err FieldSet) (variable known (c - 0x8000)))

abbrev pub go_on : Result Wants Fault → ℕ → (ℕ → ℕ → Result ℕ Refused) → Result ℕ Refused
go_on (Ok wants) place next = next wants.arity wants.known
go_on (Err fault) place next = refused fault place

-- So many cells may still be read and so many subterms are wanted; so many variables are known and cells read. At each
-- place the faults come in the order: too long (5), cut short (3), a variable at fault (4).
unfoldable pub read_from : (left wanted known place : ℕ) → List ℕ → Result ℕ Refused
read_from zero zero known place cells = Ok place
read_from zero (suc wanted) known place cells = refused TooLong place
read_from (suc left) zero known place cells = Ok place
read_from (suc left) (suc wanted) known place [] = refused CutShort place
read_from (suc left) (suc wanted) known place (c ∷ cells) =
    go_on (takes known c) place (λ arity met. read_from left (arity + wanted) met (suc place) cells)

-- The term at the beginning of some cells: one subterm is wanted at first, and a term has at most 32 cells.
unfoldable pub read_term : List ℕ → Result ℕ Refused
read_term cells = read_from 32 1 0 0 cells

-- A reading as two numbers: refusal 0 and the length, or the refusal and the fault's place.
abbrev pub reading_refusal : Result ℕ Refused → ℕ
reading_refusal (Ok length) = 0
reading_refusal (Err r) = refusal_of r.fault

abbrev pub reading_cells : Result ℕ Refused → ℕ
reading_cells (Ok length) = length
reading_cells (Err r) = r.place
