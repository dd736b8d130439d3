-- What a text says before any name is looked at: the tokens of one term in reading order, and how the reading ends.
use Rattle.std.specs.Prelude.{List, [], ◌∷◌, ◌++◌, Bool, true, false, ℕ, zero, suc, ◌+◌, ◌-◌, ◌*◌, length, eqb}
use Rattle.deciding.specs.Deciding.{pick}
use Rattle.tokens.specs.Bytes.{is_upper_byte, begins, head, tail}
use Rattle.tokens.specs.Tokens.{skip, Got, token}

-- A variable with its word, or a name with its bytes and the count of its arguments.
pub data Token : Type 0 where
  variable : List ℕ → Token
  name : List ℕ → (arity : ℕ) → Token

-- Its cell without a number.
abbrev pub shape_of : Token → ℕ
shape_of (variable word) = 32768
shape_of (name bytes arity) = arity * 4096

-- How a term begins: with fault 0 its first token, whether a bracket opens its arguments, and what is left after the token or
-- the bracket; else the fault, and what is left from there on.
pub record Start : Type 0 where
  pub fault : ℕ
  pub token : Token
  pub opens : Bool
  pub rest : List ℕ

abbrev pub start : ℕ → Token → Bool → List ℕ → Start
start fault token opens rest = record { fault = fault; token = token; opens = opens; rest = rest }

abbrev pub no_start : (fault : ℕ) → List ℕ → Start
no_start fault rest = start fault (variable []) false rest

-- A name: blanks and comments may stand before its bracket, and without one it ends right after its last byte.
unfoldable pub name_start : Got → Start
name_start got =
    pick (eqb got.fault 0)
    (pick (eqb (head (skip got.rest)) 40)
    (start 0 (name got.bytes 0) true (tail (skip got.rest)))
    (start 0 (name got.bytes 0) false got.rest))
    (no_start got.fault got.rest)

-- At the first byte: 20 where no term can begin, 21 for an eighth argument, 5 where no cell is left of the 32.
unfoldable pub start_of : (argument left : ℕ) → List ℕ → Start
start_of argument left text =
    pick (begins (head text))
    (pick (eqb argument 8) (no_start 21 text)
    (pick (eqb left 0) (no_start 5 text)
    (pick (is_upper_byte (head text))
    (start 0 (variable (token text).bytes) false (token text).rest)
    (name_start (token text)))))
    (no_start 20 text)

-- What follows an argument: a comma before the next, a closing bracket, or 20.
pub record After : Type 0 where
  pub fault : ℕ
  pub comma : Bool
  pub rest : List ℕ

abbrev pub after : ℕ → Bool → List ℕ → After
after fault comma rest = record { fault = fault; comma = comma; rest = rest }

unfoldable pub mark : List ℕ → After
mark text =
    pick (eqb (head text) 44) (after 0 true (tail text))
    (pick (eqb (head text) 41) (after 0 false (tail text)) (after 20 false text))

unfoldable pub after_of : (fault : ℕ) → List ℕ → After
after_of fault text = pick (eqb fault 0) (mark (skip text)) (after fault false text)

-- A term or arguments that were read: the fault that ended the reading or 0; the tokens read, those before a fault too; what is
-- left of the text; and of arguments how many.
pub record Read : Type 0 where
  pub fault : ℕ
  pub tokens : List Token
  pub rest : List ℕ
  pub count : ℕ

abbrev pub read : ℕ → List Token → List ℕ → ℕ → Read
read fault tokens rest count = record { fault = fault; tokens = tokens; rest = rest; count = count }

-- The same token with so many arguments.
abbrev pub applied : Token → ℕ → Token
applied (variable word) arity = variable word
applied (name bytes none) arity = name bytes arity

abbrev pub term_from : (arguments : List ℕ → Read) → Start → Read
term_from arguments s =
    pick (eqb s.fault 0)
    (pick s.opens
    (read (arguments s.rest).fault (applied s.token (arguments s.rest).count ∷ (arguments s.rest).tokens) (arguments s.rest).rest 0)
    (read 0 (s.token ∷ []) s.rest 0))
    (read s.fault [] s.rest 0)

abbrev pub before : List Token → Read → Read
before tokens others = read others.fault (tokens ++ others.tokens) others.rest others.count

abbrev pub arguments_from : (others : (left : ℕ) → List ℕ → Read) → (count left : ℕ) → Read → After → Read
arguments_from others count left argument a =
    pick a.comma (before argument.tokens (others (left - length argument.tokens) a.rest)) (read a.fault argument.tokens a.rest count)

-- A term calls for its arguments and they call for terms. A term is a whole one (0) or an argument (1 to 8), and so many of the
-- 32 cells are left; `arguments` has `count` arguments before it. `steps` bounds the calls: 66 are enough for 32 cells.
unfoldable mutual
  pub term : (steps argument left : ℕ) → List ℕ → Read
  term zero argument left text = read 20 [] text 0
  term (suc steps) argument left text = term_from (λ rest. arguments steps 0 (left - 1) rest) (start_of argument left text)

  pub arguments : (steps count left : ℕ) → List ℕ → Read
  arguments zero count left text = read 20 [] text 0
  arguments (suc steps) count left text =
      arguments_from (λ l rest. arguments steps (count + 1) l rest) (count + 1) left
      (term steps (count + 1) left (skip text))
      (after_of (term steps (count + 1) left (skip text)).fault (term steps (count + 1) left (skip text)).rest)
