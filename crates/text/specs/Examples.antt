-- Cases: what a text gives, with a table that holds `put` and `lamp` and has three free slots.
use Rattle.std.specs.Prelude.{◌≡◌, refl, List, [], ◌∷◌, ◌++◌, map, ℕ, zero, suc, length, take}
use Prim.Native.Char.{code}
use Prim.Native.String.{String, [] as none, ◌∷◌ as ◌then◌}
use Rattle.tokens.specs.Bytes.{either, within}
use Rattle.tokens.specs.Tokens.{skip, comment, bare, quoted, escaped, token}
use Rattle.names.specs.Name.{printed}
use Rattle.names.specs.Table.{same, slot_in}
use Rattle.text.specs.Term.{start_of, name_start, after_of, mark, term, arguments}
use Rattle.text.specs.Naming.{entered, number_of, naming}
use Rattle.text.specs.Text.{Answer, read_text}

abbrev bytes : String → List ℕ
bytes none = []
bytes (c then s) = code c ∷ bytes s

-- Refusal, place, cells, names afterwards; then the cells.
abbrev told : Answer → List ℕ
told a = a.refusal ∷ a.place ∷ a.size ∷ length a.names ∷ take a.size a.cells

abbrev gives : String → List ℕ
gives s = told (read_text (bytes "put" ∷ bytes "lamp" ∷ []) 3 (bytes s))

abbrev no : (refusal place : ℕ) → List ℕ
no refusal place = refusal ∷ place ∷ 0 ∷ 2 ∷ []

-- So many copies of a text.
abbrev times : ℕ → List ℕ → List ℕ
times zero s = []
times (suc n) s = s ++ times n s

abbrev long : List ℕ → List ℕ
long s = told (read_text [] 40 s)

rules : map gives ("put(lamp, X)" ∷ "put(table, X)" ∷ "f(X, Y, X)" ∷ "f(f)" ∷ " % what\n put ( lamp ) " ∷ [])
    ≡ (0 ∷ 12 ∷ 3 ∷ 2 ∷ 0x2000 ∷ 0x0001 ∷ 0x8000 ∷ [])
    ∷ (0 ∷ 13 ∷ 3 ∷ 3 ∷ 0x2000 ∷ 0x0002 ∷ 0x8000 ∷ [])
    ∷ (0 ∷ 10 ∷ 4 ∷ 3 ∷ 0x3002 ∷ 0x8000 ∷ 0x8001 ∷ 0x8000 ∷ [])
    ∷ (0 ∷ 4 ∷ 2 ∷ 3 ∷ 0x1002 ∷ 0x0002 ∷ [])
    ∷ (0 ∷ 21 ∷ 2 ∷ 2 ∷ 0x1000 ∷ 0x0001 ∷ [])
    ∷ []
unfolding either within skip comment bare quoted escaped token printed same slot_in start_of name_start after_of mark term arguments entered number_of naming read_text
rules = refl

-- What follows the term isn't judged. Without a bracket a name ends right after its last byte; once one follows there is no way
-- back.
ends : map gives ("put b" ∷ "put)" ∷ "put." ∷ "put(lamp)(b)" ∷ "X(lamp)" ∷ "put (" ∷ "f(X(lamp))" ∷ "f()" ∷ "put %\n" ∷ [])
    ≡ (0 ∷ 3 ∷ 1 ∷ 2 ∷ 0x0000 ∷ [])
    ∷ (0 ∷ 3 ∷ 1 ∷ 2 ∷ 0x0000 ∷ [])
    ∷ (0 ∷ 3 ∷ 1 ∷ 2 ∷ 0x0000 ∷ [])
    ∷ (0 ∷ 9 ∷ 2 ∷ 2 ∷ 0x1000 ∷ 0x0001 ∷ [])
    ∷ (0 ∷ 1 ∷ 1 ∷ 2 ∷ 0x8000 ∷ [])
    ∷ no 20 5
    ∷ no 20 3
    ∷ no 20 2
    ∷ (0 ∷ 3 ∷ 1 ∷ 2 ∷ 0x0000 ∷ [])
    ∷ []
unfolding either within skip comment bare quoted escaped token printed same slot_in start_of name_start after_of mark term arguments entered number_of naming read_text
ends = refl

-- Names in quotes: a quoted lower word is the same name as the bare one; any byte may stand in quotes, and then be refused by 11.
quotes : map gives ("'lamp'" ∷ "'a b'" ∷ "'it\\'s'" ∷ "'a\\\\b'" ∷ "''" ∷ "'lamp" ∷ "'a\\b'" ∷ "'a\\" ∷ "'a\n'" ∷ "'a%b'" ∷ "' '" ∷ [])
    ≡ (0 ∷ 6 ∷ 1 ∷ 2 ∷ 0x0001 ∷ [])
    ∷ (0 ∷ 5 ∷ 1 ∷ 3 ∷ 0x0002 ∷ [])
    ∷ (0 ∷ 7 ∷ 1 ∷ 3 ∷ 0x0002 ∷ [])
    ∷ (0 ∷ 6 ∷ 1 ∷ 3 ∷ 0x0002 ∷ [])
    ∷ no 11 0
    ∷ no 20 5
    ∷ no 20 3
    ∷ no 20 3
    ∷ no 11 0
    ∷ (0 ∷ 5 ∷ 1 ∷ 3 ∷ 0x0002 ∷ [])
    ∷ no 11 0
    ∷ []
unfolding either within skip comment bare quoted escaped token printed same slot_in start_of name_start after_of mark term arguments entered number_of naming read_text
quotes = refl

-- No term can begin: at the end, at a digit, a carriage return, /* */, "..", $word, _word.
begins : map gives ("" ∷ " % lamp" ∷ "7" ∷ "\rlamp" ∷ "/* */lamp" ∷ "\"lamp\"" ∷ "$lamp" ∷ "_lamp" ∷ "f(7)" ∷ "f(a b)" ∷ "f(a," ∷ "f(a, )" ∷ [])
    ≡ no 20 0 ∷ no 20 7 ∷ no 20 0 ∷ no 20 0 ∷ no 20 0 ∷ no 20 0 ∷ no 20 0 ∷ no 20 0 ∷ no 20 2 ∷ no 20 4 ∷ no 20 4 ∷ no 20 5 ∷ []
unfolding either within skip comment bare quoted escaped token printed same slot_in start_of name_start after_of mark term arguments entered number_of naming read_text
begins = refl

-- The first refusal in reading order: 11 at the closing quote before 20 behind it, 20 before 11 behind it; 12 last.
order : map gives ("f('',7)" ∷ "f(7,'')" ∷ "f(a,b,c)" ∷ "f(a,b,'')" ∷ "f(a,b,7)" ∷ "f(a,a,b)" ∷ [])
    ≡ no 11 0 ∷ no 20 2 ∷ no 12 0 ∷ no 11 0 ∷ no 20 6 ∷ (0 ∷ 8 ∷ 4 ∷ 5 ∷ 0x3002 ∷ 0x0003 ∷ 0x0003 ∷ 0x0004 ∷ []) ∷ []
unfolding either within skip comment bare quoted escaped token printed same slot_in start_of name_start after_of mark term arguments entered number_of naming read_text
order = refl

-- Seven arguments are read, and an eighth is 21 at its first byte, before 5, unless no term can begin there.
eighth : map gives ("f(X,X,X,X,X,X,X)" ∷ "f(X,X,X,X,X,X,X,X)" ∷ "f(X,X,X,X,X,X,X,)" ∷ "f(X,X,X,X,X,X,X,'" ∷ [])
    ≡ (0 ∷ 16 ∷ 8 ∷ 3 ∷ 0x7002 ∷ 0x8000 ∷ 0x8000 ∷ 0x8000 ∷ 0x8000 ∷ 0x8000 ∷ 0x8000 ∷ 0x8000 ∷ []) ∷ no 21 0 ∷ no 20 16 ∷ no 21 0 ∷ []
unfolding either within skip comment bare quoted escaped token printed same slot_in start_of name_start after_of mark term arguments entered number_of naming read_text
eighth = refl

-- 31 names, each around the next, hold one cell more and no two; an open quote in the 33rd place is 5, a digit 20.
fills : map (λ s. take 4 (long (times 31 (bytes "f(") ++ bytes s))) ("f" ∷ "f(f" ∷ "f('" ∷ "f(7" ∷ [])
    ≡ (20 ∷ 63 ∷ 0 ∷ 0 ∷ []) ∷ (5 ∷ 0 ∷ 0 ∷ 0 ∷ []) ∷ (5 ∷ 0 ∷ 0 ∷ 0 ∷ []) ∷ (20 ∷ 64 ∷ 0 ∷ 0 ∷ []) ∷ []
unfolding either within skip comment bare quoted escaped token printed same slot_in start_of name_start after_of mark term arguments entered number_of naming read_text
fills = refl

-- A name has at most 31 bytes, a variable as many as it likes.
lengths : map (λ s. take 4 (long s)) (times 31 (bytes "a") ∷ times 32 (bytes "a") ∷ times 40 (bytes "A") ∷ [])
    ≡ (0 ∷ 31 ∷ 1 ∷ 1 ∷ []) ∷ (11 ∷ 0 ∷ 0 ∷ 0 ∷ []) ∷ (0 ∷ 40 ∷ 1 ∷ 0 ∷ []) ∷ []
unfolding either within skip comment bare quoted escaped token printed same slot_in start_of name_start after_of mark term arguments entered number_of naming read_text
lengths = refl

-- Sixteen variables are read; the seventeenth is 4.
sixteen : take 6 (long (bytes "f(g(A,B,C,D,E,F),g(G,H,I,J,K,L),M,N,O,P,A)")) ≡ 0 ∷ 42 ∷ 20 ∷ 2 ∷ 0x7000 ∷ 0x6001 ∷ []
unfolding either within skip comment bare quoted escaped token printed same slot_in start_of name_start after_of mark term arguments entered number_of naming read_text
sixteen = refl

seventeen : long (bytes "f(g(A,B,C,D,E,F),g(G,H,I,J,K,L),M,N,O,P,Q)") ≡ 4 ∷ 0 ∷ 0 ∷ 0 ∷ []
unfolding either within skip comment bare quoted escaped token printed same slot_in start_of name_start after_of mark term arguments entered number_of naming read_text
seventeen = refl
