-- What the session program prints, and how it reads cells: Reference 11.
use Rattle.std.specs.Prelude.{List, [], ◌∷◌, ◌++◌, ℕ, zero, suc, ◌+◌, ◌*◌, ◌/◌, ◌%◌, ltb, length, take, drop}
use Rattle.deciding.specs.Deciding.{pick}
use Rattle.commands.specs.Records.{Record}

-- The decimal digits of n, at most as many as the fuel: those of n / 10, where there are any, and then the last.
unfoldable pub digits : ℕ → ℕ → List ℕ
digits zero n = []
digits (suc fuel) n = pick (ltb n 10) [] (digits fuel (n / 10)) ++ ((48 + n % 10) ∷ [])

-- All of them: n has at most n + 1.
abbrev pub decimal : ℕ → List ℕ
decimal n = digits (suc n) n

-- 0 to 9, and then a to f.
abbrev pub hex_digit_of : ℕ → ℕ
hex_digit_of n = pick (ltb n 10) (48 + n) (87 + n)

abbrev pub hex_cell : ℕ → List ℕ
hex_cell c = hex_digit_of (c / 4096 % 16) ∷ hex_digit_of (c / 256 % 16) ∷ hex_digit_of (c / 16 % 16) ∷ hex_digit_of (c % 16) ∷ []

abbrev pub space : List ℕ
space = 32 ∷ []

abbrev pub newline : List ℕ
newline = 10 ∷ []

-- A space and a cell, for each cell.
unfoldable pub hex_cells : List ℕ → List ℕ
hex_cells [] = []
hex_cells (c ∷ cs) = space ++ hex_cell c ++ hex_cells cs

-- The line of a record: its position, refusal and count, and its further cells.
abbrev pub record_line : ℕ → Record → List ℕ
record_line position r = decimal position ++ space ++ decimal r.refusal ++ space ++ decimal (length r.cells) ++ hex_cells r.cells ++ newline

-- The lines of records, the first of them at a position.
unfoldable pub record_lines : ℕ → List Record → List ℕ
record_lines position [] = []
record_lines position (r ∷ rs) = record_line position r ++ record_lines (position + 1) rs

-- `no refusal count cells` and a newline.
abbrev pub header : List ℕ
header = 110 ∷ 111 ∷ 32 ∷ 114 ∷ 101 ∷ 102 ∷ 117 ∷ 115 ∷ 97 ∷ 108 ∷ 32 ∷ 99 ∷ 111 ∷ 117 ∷ 110 ∷ 116 ∷ 32 ∷ 99 ∷ 101 ∷ 108 ∷ 108 ∷ 115 ∷ 10 ∷ []

-- `stop S used U written W` and a newline.
abbrev pub stop_line : ℕ → ℕ → ℕ → List ℕ
stop_line stop used written =
    (115 ∷ 116 ∷ 111 ∷ 112 ∷ 32 ∷ []) ++ decimal stop
    ++ (32 ∷ 117 ∷ 115 ∷ 101 ∷ 100 ∷ 32 ∷ []) ++ decimal used
    ++ (32 ∷ 119 ∷ 114 ∷ 105 ∷ 116 ∷ 116 ∷ 101 ∷ 110 ∷ 32 ∷ []) ++ decimal written ++ newline

-- The whole listing.
unfoldable pub listing : List Record → ℕ → ℕ → ℕ → List ℕ
listing rs stop used written = header ++ record_lines 1 rs ++ stop_line stop used written

-- `bad input` and a newline.
abbrev pub bad_input : List ℕ
bad_input = 98 ∷ 97 ∷ 100 ∷ 32 ∷ 105 ∷ 110 ∷ 112 ∷ 117 ∷ 116 ∷ 10 ∷ []

-- Bytes as cells, two bytes a cell, high byte first.
unfoldable pub cells_in : List ℕ → List ℕ
cells_in [] = []
cells_in (high ∷ []) = []
cells_in (high ∷ low ∷ bytes) = (256 * high + low) ∷ cells_in bytes

-- The records of which cells are made, at most as many as the fuel. A record whose count goes past the end has the cells
-- that there are.
unfoldable pub records_by : ℕ → List ℕ → List Record
records_by zero cells = []
records_by (suc fuel) [] = []
records_by (suc fuel) (c ∷ cells) = record { refusal = c / 4096; cells = take (c % 4096) cells } ∷ records_by fuel (drop (c % 4096) cells)

-- All of them: each takes a cell.
abbrev pub records_in : List ℕ → List Record
records_in cells = records_by (length cells) cells
