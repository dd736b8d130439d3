-- What the functions below the call promise.
use Rattle.std.specs.Prelude.{◌≡◌, List, [], ◌++◌, Bool, true, false, ℕ, ◌+◌, ◌-◌, ◌*◌, ◌≤◌, ◌<◌, Option, unwrap_or, Result, Ok, Err, IfOk, length, get_or, set, drop, take, map}
use Rattle.names.specs.Table.{Holds, slot_in}
use Rattle.names.specs.declared.lookup.Lookup.{Lookup}
use Rattle.tokens.specs.Bytes.{is_upper_byte, head}
use Rattle.tokens.specs.Tokens.{Got, token}
use Rattle.tokens.specs.Places.{LeftFrom}
use Rattle.text.specs.Term.{Token, variable, name, Start, name_start, After, Read, term, arguments}
use Rattle.text.specs.Naming.{entered, TokenNumber, number_of, TokenCells, naming}
use Rattle.text.specs.Text.{padded}
use Rattle.text.specs.Refusals.{Refusal, Names, SeventeenthVariable, NoCell, NoTerm, EighthArgument, number_of_refusal, place_of_refusal, refusal_of}
use Rattle.text.specs.Promises.{TextRead, refused_read}
pub use Rattle.text.specs.declared.Term.{Term as Whole}
pub use Rattle.text.specs.declared.notes.Note.{Note}
pub use Rattle.text.specs.declared.notes.Notes.{Notes}
pub use Rattle.text.specs.declared.shape.Begun.{Begun}
pub use Rattle.text.specs.declared.shape.Begun.TheVariants.{Alone, Opens}
pub use Rattle.text.specs.declared.shape.Followed.{Followed}
pub use Rattle.text.specs.declared.shape.Followed.TheVariants.{Comma, Close}
pub use Rattle.text.specs.declared.fresh.Fresh.{Fresh}
pub use Rattle.text.specs.declared.variables.Variables.{Variables}

-- ---- the shape of a term

-- The note at an index.
abbrev pub note_at : List Note → ℕ → Note
note_at notes i = get_or notes i (record { place = 0; after = 0; shape = 0 })

-- The token that a note says.
pub data Stands (text : List ℕ) (note : Note) : Token → Type 0 where
  a_variable : {word : List ℕ} → note.place ≤ length text → is_upper_byte (head (drop note.place text)) ≡ true → (token (drop note.place text)).bytes ≡ word
      → note.shape ≡ 32768 → Stands text note (variable word)
  a_name : {bytes : List ℕ} {arity : ℕ} → note.place ≤ length text → is_upper_byte (head (drop note.place text)) ≡ false → (token (drop note.place text)).bytes ≡ bytes
      → arity ≤ 8 → note.shape ≡ arity * 4096 → Stands text note (name bytes arity)

-- Where a token at a place begins as a variable does, reading goes on after it at another.
abbrev pub GoesOnAt : (text : List ℕ) → (at after : ℕ) → Type 0
GoesOnAt text at after = is_upper_byte (head (drop at text)) ≡ true → LeftFrom text (token (drop at text)).rest after

-- The note of a reading: it says the token, and where reading goes on after a variable.
pub record IsNote (text : List ℕ) (note : Note) (token : Token) : Type 0 where
  pub stands : Stands text note token
  pub goes_on : GoesOnAt text note.place note.after

-- It stops with a refusal, where the rest begins. The first two are those of numbers, and no reading stops with them.
abbrev pub StopsAt : (text rest : List ℕ) → Refusal → Type 0
StopsAt text rest (Names refusal) = Unit {0}
StopsAt text rest SeventeenthVariable = Unit {0}
StopsAt text rest (NoCell place) = LeftFrom text rest place
StopsAt text rest (NoTerm place) = LeftFrom text rest place
StopsAt text rest (EighthArgument place) = LeftFrom text rest place

pub record Stops (text rest : List ℕ) (fault : ℕ) (refusal : Refusal) : Type 0 where
  pub fault_is : number_of_refusal refusal ≡ fault
  pub at : StopsAt text rest refusal

-- It goes on at a place, or it stops.
pub record Goes (text rest : List ℕ) (fault place : ℕ) : Type 0 where
  pub fine : fault ≡ 0
  pub left : LeftFrom text rest place

abbrev pub EndsAt : (text rest : List ℕ) → (fault : ℕ) → Result ℕ Refusal → Type 0
EndsAt text rest fault (Ok place) = Goes text rest fault place
EndsAt text rest fault (Err refusal) = Stops text rest fault refusal

-- How a term begins: whether a bracket opens arguments, the place after it or after the token, and the shape without arguments.
abbrev pub opens : Begun → Bool
opens (Alone shape after) = false
opens (Opens after) = true

abbrev pub place_begun : Begun → ℕ
place_begun (Alone shape after) = after
place_begun (Opens after) = after

abbrev pub shape_begun : Begun → ℕ
shape_begun (Alone shape after) = shape
shape_begun (Opens after) = 0

-- Without its token.
pub record Opening (text : List ℕ) (start : Start) (begun : Begun) : Type 0 where
  pub goes : Goes text start.rest start.fault (place_begun begun)
  pub opens_is : opens begun ≡ start.opens

-- A name that ended at a place.
pub record Named (text : List ℕ) (at : ℕ) (begun : Begun) : Type 0 where
  pub bare : shape_begun begun ≡ 0
  pub opening : (name : Got) → name.fault ≡ 0 → drop at text ≡ name.rest → Opening text (name_start name) begun

-- With its token at a place.
pub record Begins (text : List ℕ) (place : ℕ) (start : Start) (begun : Begun) : Type 0 where
  pub opening : Opening text start begun
  pub stands : IsNote text (record { place = place; after = place_begun begun; shape = shape_begun begun }) start.token

abbrev pub BeginsAt : (text : List ℕ) → (place : ℕ) → Start → Result Begun Refusal → Type 0
BeginsAt text place start (Ok begun) = Begins text place start begun
BeginsAt text place start (Err refusal) = Stops text start.rest start.fault refusal

-- What follows an argument.
abbrev pub is_comma : Followed → Bool
is_comma (Comma place) = true
is_comma (Close place) = false

abbrev pub place_followed : Followed → ℕ
place_followed (Comma place) = place
place_followed (Close place) = place

pub record FollowedBy (text : List ℕ) (after : After) (followed : Followed) : Type 0 where
  pub goes : Goes text after.rest after.fault (place_followed followed)
  pub comma_is : is_comma followed ≡ after.comma

pub record FollowedByNone (text : List ℕ) (after : After) (refusal : Refusal) : Type 0 where
  pub stops : Stops text after.rest after.fault refusal
  pub no_comma : after.comma ≡ false

abbrev pub Follows : (text : List ℕ) → After → Result Followed Refusal → Type 0
Follows text after (Ok followed) = FollowedBy text after followed
Follows text after (Err refusal) = FollowedByNone text after refusal

-- From the cell `from` on the notes are those of the tokens, and those of the cells before it stay.
pub record Noted (text : List ℕ) (from : ℕ) (tokens : List Token) (notes notes' : List Note) : Type 0 where
  pub kept : (i : ℕ) → i < from → note_at notes' i ≡ note_at notes i
  pub noted : (i : ℕ) → i < length tokens → IsNote text (note_at notes' (from + i)) (get_or tokens i (variable []))

-- A term or arguments were read, into the notes from the cell `from` on, up to the cell `size`.
pub record ReadEnds (text : List ℕ) (from : ℕ) (notes : List Note) (size : ℕ) (notes' : List Note) (end : Result ℕ Refusal) (read : Read) : Type 0 where
  pub ends : EndsAt text read.rest read.fault end
  pub size_is : size ≡ from + length read.tokens
  pub few : read.count ≤ 8
  pub notes_are : Noted text from read.tokens notes notes'

-- With steps enough.
abbrev pub ReadsTerm : (text : List ℕ) → (at argument from : ℕ) → (notes : List Note) → (size : ℕ) → (notes' : List Note) → Result ℕ Refusal → Type 0
ReadsTerm text at argument from notes size notes' end =
    (steps : ℕ) → 2 * (32 - from) + 1 ≤ steps → ReadEnds text from notes size notes' end (term steps argument (32 - from) (drop at text))

abbrev pub TermEnds : (text : List ℕ) → (at argument : ℕ) → (before after : Notes) → Result ℕ Refusal → Type 0
TermEnds text at argument before after end = ReadsTerm text at argument before.size before.all after.size after.all end

-- The note of a name gets its arguments; where it begins and where reading goes on after it stay.
abbrev pub counted : Note → (count : ℕ) → Note
counted note count = record { place = note.place; after = note.after; shape = count * 4096 }

abbrev pub with_arguments : List Note → (i count : ℕ) → List Note
with_arguments notes i count = set notes i (counted (note_at notes i) count)

abbrev pub ReadsArguments : (text : List ℕ) → (at count i from : ℕ) → (notes : List Note) → (size : ℕ) → (notes' : List Note) → Result ℕ Refusal → Type 0
ReadsArguments text at count i from notes size notes' end =
    (steps : ℕ) → 2 * (32 - from) + 2 ≤ steps
    → ReadEnds text from (with_arguments notes i (arguments steps count (32 - from) (drop at text)).count) size notes' end (arguments steps count (32 - from) (drop at text))

abbrev pub ArgumentsEnd : (text : List ℕ) → (at count i : ℕ) → (before after : Notes) → Result ℕ Refusal → Type 0
ArgumentsEnd text at count i before after end = ReadsArguments text at count i before.size before.all after.size after.all end

-- ---- the numbers of its tokens

-- The number, 0 where it is refused.
abbrev pub number_in : Result ℕ Refusal → ℕ
number_in (Ok number) = number
number_in (Err refusal) = 0

-- Where a token at a place begins as a variable does, its word ends within the text.
abbrev pub WordEnds : (text : List ℕ) → (at after : ℕ) → Type 0
WordEnds text at after = is_upper_byte (head (drop at text)) ≡ true → (at ≤ after) × (after ≤ length text)

-- After all variables of a reading it goes on where their notes say.
abbrev pub AllGoOn : (text : List ℕ) → Notes → Type 0
AllGoOn text notes = (i : ℕ) → i < notes.size → GoesOnAt text (note_at notes.all i).place (note_at notes.all i).after

-- The words of the variables met.
abbrev pub known_words : Variables → List (List ℕ)
known_words variables = map (λ word. word.now) (take variables.known variables.words)

-- The names held by a table, and the new ones gathered in a table of 32 slots.
pub record GatheredNames (table fresh : List ℕ) (held new : ℕ) (names : List (List ℕ)) : Type 0 where
  pub old : List (List ℕ)
  pub gathered : List (List ℕ)
  pub free : ℕ
  pub names_are : names ≡ old ++ gathered
  pub holds : Holds table old free
  pub held_is : length old ≡ held
  pub fresh_holds : Holds fresh gathered (32 - new)
  pub new_is : length gathered ≡ new

-- A token has its number: what is so of a variable, and of a name.
pub record NumbersVariable (known : List (List ℕ)) (numbered : TokenNumber) (r : Result ℕ Refusal) : Type 0 where
  pub refusal_is : refusal_of r ≡ numbered.refusal
  pub number_is : number_in r ≡ numbered.number
  pub known_is : known ≡ numbered.variables

pub record NumbersName (table fresh : List ℕ) (held new : ℕ) (numbered : TokenNumber) (r : Result ℕ Refusal) : Type 0 where
  pub refusal_is : refusal_of r ≡ numbered.refusal
  pub number_is : number_in r ≡ numbered.number
  pub gathered : GatheredNames table fresh held new numbered.names

pub record EntersName (table fresh : List ℕ) (held new : ℕ) (names : List (List ℕ)) (name : List ℕ) (number : ℕ) : Type 0 where
  pub number_is : number ≡ slot_in names name
  pub gathered : GatheredNames table fresh held new (entered names name)

pub record Numbers (known : List (List ℕ)) (table fresh : List ℕ) (held new : ℕ) (numbered : TokenNumber) (r : Result ℕ Refusal) : Type 0 where
  pub refusal_is : refusal_of r ≡ numbered.refusal
  pub number_is : number_in r ≡ numbered.number
  pub known_is : known ≡ numbered.variables
  pub gathered : GatheredNames table fresh held new numbered.names

-- All tokens have their numbers: the refusal, and without one the names and the cells.
pub record Tokens (text : List ℕ) (notes : List Note) (tokens : List Token) : Type 0 where
  pub stands : (i : ℕ) → i < length tokens → Stands text (note_at notes i) (get_or tokens i (variable []))

pub record NumbersAll (table fresh : List ℕ) (held new : ℕ) (named : TokenCells) (r : Result (List ℕ) Refusal) : Type 0 where
  pub refusal_is : refusal_of r ≡ named.refusal
  pub cells_are : IfOk r (λ cells. cells ≡ padded named.cells)
  pub gathered : named.refusal ≡ 0 → GatheredNames table fresh held new named.names

-- For any names before it.
abbrev pub FindsVariable : Variables → (word : List ℕ) → Option ℕ → Type 0
FindsVariable variables word found = unwrap_or found variables.known ≡ slot_in (known_words variables) word

abbrev pub NumbersVariables : (word : List ℕ) → (before after : Variables) → Result ℕ Refusal → Type 0
NumbersVariables word before after r =
    (names : List (List ℕ)) → NumbersVariable (known_words after) (number_of names (known_words before) (variable word)) r

abbrev pub EntersNames : Lookup → (before : Fresh) → (bytes : List ℕ) → (after : Fresh) → ℕ → Type 0
EntersNames lookup before bytes after number =
    (names : List (List ℕ)) → GatheredNames lookup.table.now before.table lookup.held before.count names
    → EntersName lookup.table.now after.table lookup.held after.count names bytes number

abbrev pub NumbersNames : (text : List ℕ) → (at : ℕ) → Lookup → (before after : Fresh) → Result ℕ Refusal → Type 0
NumbersNames text at lookup before after r =
    (names words : List (List ℕ)) (arity : ℕ) → GatheredNames lookup.table.now before.table lookup.held before.count names
    → NumbersName lookup.table.now after.table lookup.held after.count (number_of names words (name (token (drop at text)).bytes arity)) r

abbrev pub NumbersAny : (text : List ℕ) → (at : ℕ) → Lookup → (variables : Variables) → (fresh : Fresh) → (variables' : Variables) → (fresh' : Fresh) → Result ℕ Refusal → Type 0
NumbersAny text at lookup variables fresh variables' fresh' r =
    (names : List (List ℕ)) (token : Token) (after shape : ℕ) → Stands text (record { place = at; after = after; shape = shape }) token
    → GatheredNames lookup.table.now fresh.table lookup.held fresh.count names
    → Numbers (known_words variables') lookup.table.now fresh'.table lookup.held fresh'.count (number_of names (known_words variables) token) r

abbrev pub NumbersTokens : (text : List ℕ) → Lookup → Notes → Fresh → Result (List ℕ) Refusal → Type 0
NumbersTokens text lookup notes fresh r =
    (names : List (List ℕ)) (free : ℕ) (tokens : List Token) → Holds lookup.table.now names free → length names ≡ lookup.held → length tokens ≡ notes.size
    → Tokens text notes.all tokens
    → NumbersAll lookup.table.now fresh.table lookup.held fresh.count (naming names [] tokens) r

-- ---- the answer

-- A term that was read, or a refusal, as the call gives it.
abbrev pub outcome : Result Whole Refusal → TextRead
outcome (Ok term) = record { refusal = 0; place = term.place; size = term.size; cells = term.cells }
outcome (Err refusal) = refused_read (number_of_refusal refusal) (place_of_refusal refusal)
