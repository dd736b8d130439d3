-- The answer, way by way, from how the term ended and which numbers its tokens got.
use mathlib.Core.Path.{◌≡◌, refl, sym, ap, ap₂, ◌∙◌}
use mathlib.Core.List.{List, [], ◌∷◌, ◌++◌}
use Prim.Native.Nat.{ℕ, ◌+◌, ◌-◌, ◌*◌, ◌≤◌, ◌<◌}
use native.Mathlib.Omega.{arith}
use borrow.Author.Tests.{eq-eqb, ne_eqb, lt-ltb, le-ltb}
use lib.ListN.{length, get_or, replicate, length-append, length-replicate}
use Rattle.std.specs.Prelude.{Bool, true, false, eqb, ltb, Result, Ok, Err}
use Rattle.deciding.specs.Deciding.{pick}
use Rattle.names.specs.declared.refusal.Refusal.TheVariants.{NoTable, NoName, NoSlot, NoNumber}
use Rattle.names.specs.Name.{passes_as_name}
use Rattle.names.specs.Table.{Holds, slot_in, slots_of}
use Rattle.names.specs.Calls.{Appends}
use Rattle.names.specs.Slots.{slots_length}
use Rattle.names.specs.Once.{free_once}
use Rattle.tokens.specs.Tokens.{skip}
use Rattle.tokens.specs.Places.{LeftFrom}
use Rattle.tokens.specs.Ahead.{place_is}
use Rattle.text.specs.Term.{Token, variable, name, shape_of, Read}
use Rattle.text.specs.Naming.{entered, TokenNumber, numbered, number_of, TokenCells, cell_before, named, naming}
use Rattle.text.specs.Steps.{cells_many}
use Rattle.text.specs.Text.{Answer, refused, padded, term_of, read_text}
use Rattle.text.specs.Promises.{told, refused_read, table_of, Reads, has_read}
use Rattle.text.specs.Refusals.{Refusal, Names, SeventeenthVariable, NoCell, NoTerm, EighthArgument, number_of_refusal, place_of_refusal}
use Rattle.text.specs.Leaves.{Note, note_at, Stands, a_variable, a_name, GoesOnAt, IsNote, Stops, ReadEnds, ReadsTerm, WordEnds, GatheredNames, Tokens, NumbersAll}
use Rattle.text.proofs.Words.{upper_left, word_ends}
use Rattle.text.proofs.Reading.{refused_above}

pub table_length : {t : List ℕ} {names : List (List ℕ)} {free : ℕ} → Holds t names free → length t ≡ 32 * (length names + free)
table_length {t} {names} {free} h =
    ap length h.written ∙ length-append (slots_of names) (replicate (32 * free) 0) ∙ omega (arith, slots_length names h.named, length-replicate {A = ℕ} (32 * free) 0)

-- A note has one cell.
stands_bounds : {text : List ℕ} {note : Note} {token : Token} → Stands text note token → (note.place ≤ length text) × (note.shape ≤ 32768)
stands_bounds (a_variable p u w s) = (p, omega arith)
stands_bounds (a_name p u w l s) = (p, omega arith)

-- A variable's word ends behind its place.
note_word : {text : List ℕ} {note : Note} {token : Token} → IsNote text note token → WordEnds text note.place note.after
note_word {text} {note} n o =
    let p = (stands_bounds n.stands).0 in
    let e = n.goes_on o in
    let ends = word_ends text note.place note.after p (upper_left text note.place note.after o e) in
    (omega arith, e.within)

-- A token is refused by 4 or 11, and no place is told with these.
token_small : (names words : List (List ℕ)) (token : Token) → (number_of names words token).refusal ≤ 11
unfolding number_of
token_small names words (variable word) = go (ltb (slot_in words word) 16)
  where
    go : (b : Bool) → (pick b (numbered 0 (slot_in words word) names (entered words word)) (numbered 4 0 names words)).refusal ≤ 11
    go true = omega arith
    go false = omega arith
token_small names words (name bytes arity) = go (passes_as_name bytes)
  where
    go : (b : Bool) → (pick b (numbered 0 (slot_in names bytes) (entered names bytes) words) (numbered 11 0 names words)).refusal ≤ 11
    go true = omega arith
    go false = omega arith

naming_small : (names words : List (List ℕ)) (tokens : List Token) → (naming names words tokens).refusal ≤ 11
unfolding naming
naming_small names words [] = omega arith
naming_small names words (token ∷ tokens) =
    let n = number_of names words token in
    go n (naming n.names n.variables tokens) (token_small names words token) (naming_small n.names n.variables tokens) (eqb n.refusal 0)
  where
    go : (n : TokenNumber) (others : TokenCells) → n.refusal ≤ 11 → others.refusal ≤ 11 → (b : Bool)
        → (pick b (cell_before (shape_of token + n.number) others) (named n.refusal [] names)).refusal ≤ 11
    go n others s t true = t
    go n others s t false = s

no_place : (refusal : Refusal) → number_of_refusal refusal ≤ 11 → place_of_refusal refusal ≡ 0
no_place (Names refusal) l = refl
no_place SeventeenthVariable l = refl
no_place (NoCell place) l = refl
no_place (NoTerm place) l = absurd (omega arith)
no_place (EighthArgument place) l = refl

-- The place of the reading's fault.
fault_place : (text : List ℕ) (r : Read) (refusal : Refusal) → Stops text r.rest r.fault refusal
    → pick (eqb r.fault 20) (length text - length r.rest) 0 ≡ place_of_refusal refusal
fault_place text r (Names NoTable) s = rw (sym s.fault_is) refl
fault_place text r (Names NoName) s = rw (sym s.fault_is) refl
fault_place text r (Names NoSlot) s = rw (sym s.fault_is) refl
fault_place text r (Names NoNumber) s = rw (sym s.fault_is) refl
fault_place text r SeventeenthVariable s = rw (sym s.fault_is) refl
fault_place text r (NoCell place) s = rw (sym s.fault_is) refl
fault_place text r (NoTerm place) s = rw (sym s.fault_is) (sym (place_is s.at))
fault_place text r (EighthArgument place) s = rw (sym s.fault_is) refl

-- What is known once the term was read.
module _ (text : List ℕ) (begin : ℕ) (gap : LeftFrom text (skip text) begin) (notes : List Note) (size : ℕ) (notes' : List Note) (end : Result ℕ Refusal)
    (e : ReadsTerm text begin 0 0 notes size notes' end) where
  ends : ReadEnds text 0 notes size notes' end (term_of text)
  ends = rw gap.rest_is at (e 66 (omega arith))

  tokens_noted : (i : ℕ) → i < length (term_of text).tokens → IsNote text (note_at notes' i) (get_or (term_of text).tokens i (variable []))
  tokens_noted i l = let z : 0 + i ≡ i = omega arith in rw z at (ends.notes_are.noted i l)

  tokens_stand : (i : ℕ) → i < length (term_of text).tokens → Stands text (note_at notes' i) (get_or (term_of text).tokens i (variable []))
  tokens_stand i l = (tokens_noted i l).stands

  size_is : size ≡ length (term_of text).tokens
  size_is = ends.size_is ∙ omega arith

  pub notes_bounds : (i : ℕ) → i < size → ((note_at notes' i).place ≤ length text) × ((note_at notes' i).shape ≤ 32768)
  notes_bounds i l = stands_bounds (tokens_stand i (omega (arith, size_is)))

  pub notes_words : (i : ℕ) → i < size → WordEnds text (note_at notes' i).place (note_at notes' i).after
  notes_words i l = note_word (tokens_noted i (omega (arith, size_is)))

  -- .. and once its tokens have their numbers.
  module _ {before : List ℕ} {names : List (List ℕ)} {free : ℕ} (h : Holds before names free) (held : ℕ) (count : length names ≡ held)
      (fresh : List ℕ) (new : ℕ) (r : Result (List ℕ) Refusal)
      (n : ((i : ℕ) → i < size → GoesOnAt text (note_at notes' i).place (note_at notes' i).after)
      → (names : List (List ℕ)) (free : ℕ) (tokens : List Token) → Holds before names free → length names ≡ held → length tokens ≡ size → Tokens text notes' tokens
      → NumbersAll before fresh held new (naming names [] tokens) r) where
    abbrev given : TokenCells
    given = naming names [] (term_of text).tokens

    all : NumbersAll before fresh held new given r
    all = n (λ i l. (tokens_noted i (omega (arith, size_is))).goes_on) names free (term_of text).tokens h count (sym size_is) (record { stands = tokens_stand })

    -- Refused.
    same_table : before ≡ table_of (length names + free) names
    same_table = let e : length names + free - length names ≡ free = omega arith in h.written ∙ ap (λ (x : ℕ). slots_of names ++ replicate (32 * x) 0) (sym e)

    refusing : (refusal place : ℕ) → read_text names free text ≡ refused names refusal place → Reads before text (refused_read refusal place) before
    refusing refusal place e = has_read h (ap told (sym e)) (same_table ∙ ap (λ (a : Answer). table_of (length names + free) a.names) (sym e))

    pub reads_unnamed : (refusal : Refusal) → r ≡ Err refusal → Reads before text (refused_read (number_of_refusal refusal) (place_of_refusal refusal)) before
    unfolding read_text
    reads_unnamed refusal e =
        let f : number_of_refusal refusal ≡ given.refusal = rw e at all.refusal_is in
        let small : number_of_refusal refusal ≤ 11 = omega (arith, naming_small names [] (term_of text).tokens) in
        rw (no_place refusal small) (refusing (number_of_refusal refusal) 0 (rw (f, ne_eqb given.refusal 0 (λ z. refused_above refusal (f ∙ z)))))

    module _ (cells : List ℕ) (numbered_is : r ≡ Ok cells) where
      given_well : given.refusal ≡ 0
      given_well = sym (rw numbered_is at all.refusal_is)

      pub reads_no_term : (refusal : Refusal) → end ≡ Err refusal → Reads before text (refused_read (number_of_refusal refusal) (place_of_refusal refusal)) before
      unfolding read_text
      reads_no_term refusal e =
          let s = rw e at ends.ends in
          let f = s.fault_is in
          let d : (term_of text).fault ≡ 0 → ⊥ = λ z. refused_above refusal (f ∙ z) in
          refusing (number_of_refusal refusal) (place_of_refusal refusal)
          (rw (eq-eqb given.refusal 0 given_well, ne_eqb (term_of text).fault 0 d, fault_place text (term_of text) refusal s, f))

      module _ (place : ℕ) (end_is : end ≡ Ok place) where
        term_well : (term_of text).fault ≡ 0
        term_well = (rw end_is at ends.ends).fine

        gathered : GatheredNames before fresh held new given.names
        gathered = all.gathered given_well

        names_count : length given.names ≡ held + new
        names_count =
            let g = gathered in
            ap length g.names_are ∙ length-append g.old g.gathered ∙ (let a = g.held_is in let b = g.new_is in omega arith)

        pub reads_no_slot : free < new → Reads before text (refused_read 12 0) before
        unfolding read_text
        reads_no_slot l =
            refusing 12 0
            (rw (eq-eqb given.refusal 0 given_well, eq-eqb (term_of text).fault 0 term_well, lt-ltb (length names + free) (length given.names) (omega (arith, names_count))))

        abbrev good : (place size : ℕ) → List ℕ → Answer
        good place size cells = record { refusal = 0; place = place; size = size; cells = cells; names = given.names }

        pub reads_term : new ≤ free → (after : List ℕ) → Appends before held fresh new after
            → Reads before text (record { refusal = 0; place = place; size = size; cells = cells }) after
        unfolding read_text
        reads_term l after a =
            let g = gathered in
            let slots : length names + free - length given.names ≡ free - new = omega (arith, names_count) in
            let room : g.free ≡ free = free_once g.holds h in
            let its = place_is (rw end_is at ends.ends).left in
            let cells_are : cells ≡ padded given.cells = rw numbered_is at all.cells_are in
            let many : size ≡ length given.cells = size_is ∙ sym (cells_many names [] (term_of text).tokens given_well) in
            let read : read_text names free text ≡ good place size cells =
            rw (eq-eqb given.refusal 0 given_well, eq-eqb (term_of text).fault 0 term_well, le-ltb (length names + free) (length given.names) (omega (arith, names_count)))
            (ap₂ (λ (x y : ℕ). good x y (padded given.cells)) (sym its) (sym many) ∙ ap (good place size) (sym cells_are)) in
            has_read h (ap told (sym read))
            (a g.old g.gathered g.free (32 - new) (record { holds = g.holds; held_is = g.held_is; new_holds = g.fresh_holds; count_is = g.new_is; fits = omega arith })
            ∙ ap₂ (λ (x : List (List ℕ)) (y : ℕ). slots_of x ++ replicate (32 * y) 0) (sym g.names_are) (ap (λ (x : ℕ). x - new) room ∙ sym slots)
            ∙ ap (λ (x : Answer). table_of (length names + free) x.names) (sym read))
