-- A term and its arguments: what one call of each adds to what the calls in it promise.
use mathlib.Core.Path.{◌≡◌, refl, sym, ap, subst, ◌∙◌}
use mathlib.Core.List.{List, [], ◌∷◌, ◌++◌}
use mathlib.Core.Bool.{true, false}
use Prim.Native.Nat.{ℕ, zero, suc, ◌+◌, ◌-◌, ◌*◌, ◌≤◌, ◌<◌}
use native.Mathlib.Omega.{arith}
use native.Mathlib.Decide.{dec_lt, ℕ_discrete}
use borrow.Author.Tests.{eq-eqb, ne_eqb}
use lib.ListN.{length, get_or, drop, set, length-set, length-append, get_or-append}
use lib.Seq.{get_or-set_same, get_or-set_other, get_or-append-add}
use Rattle.std.specs.Prelude.{Result, Ok, Err}
use Rattle.names.specs.declared.refusal.Refusal.TheVariants.{NoTable, NoName, NoSlot, NoNumber}
use Rattle.tokens.specs.Tokens.{skip}
use Rattle.tokens.specs.Places.{LeftFrom}
use Rattle.text.specs.Term.{Token, variable, Start, start_of, mark, after_of, Read, applied, term_from, term, arguments}
use Rattle.text.specs.Refusals.{Refusal, Names, SeventeenthVariable, NoCell, NoTerm, EighthArgument, number_of_refusal}
use Rattle.text.specs.Leaves.{Note, note_at, Begun, Followed, place_begun, shape_begun, opens, is_comma, place_followed}
use Rattle.text.specs.Leaves.{Stands, a_variable, a_name, IsNote, Stops, Begins, FollowedBy, FollowedByNone, Noted, ReadEnds, ReadsTerm, counted, with_arguments, ReadsArguments}

-- Each refusal has a number.
pub refused_above : (refusal : Refusal) → number_of_refusal refusal ≡ 0 → ⊥
refused_above (Names NoTable) e = omega arith
refused_above (Names NoName) e = omega arith
refused_above (Names NoSlot) e = omega arith
refused_above (Names NoNumber) e = omega arith
refused_above SeventeenthVariable e = omega arith
refused_above (NoCell place) e = omega arith
refused_above (NoTerm place) e = omega arith
refused_above (EighthArgument place) e = omega arith

-- The notes.
noted_none : (text : List ℕ) (from : ℕ) (notes : List Note) → Noted text from [] notes notes
noted_none text from notes = record { kept = λ i l. refl; noted = λ i l. absurd (omega arith) }

-- That of a token before those of others.
module _ (text : List ℕ) (from : ℕ) (note : Note) (token : Token) (tokens : List Token) (before between after : List Note)
    (kept : (i : ℕ) → i < from → note_at between i ≡ note_at before i) (here : note_at between from ≡ note) (stands : IsNote text note token)
    (under : Noted text (from + 1) tokens between after) where
  noted_before : Noted text from (token ∷ tokens) before after
  noted_before = record { kept = λ i l. under.kept i (omega arith) ∙ kept i l; noted = go }
    where
      go : (i : ℕ) → i < length (token ∷ tokens) → IsNote text (note_at after (from + i)) (get_or (token ∷ tokens) i (variable []))
      go zero l =
          let e : from + zero ≡ from = omega arith in
          rw (e, under.kept from (omega arith), here) stands
      go (suc i) l = let e : from + suc i ≡ from + 1 + i = omega arith in rw e (under.noted i (omega arith))

-- The note of a name gets its arguments.
with_same : (notes : List Note) (i count : ℕ) → i < length notes → note_at (with_arguments notes i count) i ≡ counted (note_at notes i) count
with_same notes i count l = get_or-set_same notes i _ _ l

with_other : (notes : List Note) (i count j : ℕ) → (j ≡ i → ⊥) → note_at (with_arguments notes i count) j ≡ note_at notes j
with_other notes i count j d = get_or-set_other notes i j _ _ d

-- Those of two rows, one behind the other, under a name that gets more arguments.
module _ {text : List ℕ} {from : ℕ} (name less more : ℕ) (a b : List Token) (notes notes₁ notes₂ : List Note) (in_notes : name < length notes) (in_notes₁ : name < length notes₁)
    (above : name < from) (p : Noted text from a (with_arguments notes name less) notes₁) (q : Noted text (from + length a) b (with_arguments notes₁ name more) notes₂) where
  abbrev Said : ℕ → Type 0
  Said i = IsNote text (note_at notes₂ (from + i)) (get_or (a ++ b) i (variable []))

  both_kept : (i : ℕ) → i < from → (Dec (i ≡ name)) → note_at notes₂ i ≡ note_at (with_arguments notes name more) i
  both_kept i l (yes e) =
      let same : note_at notes₁ name ≡ counted (note_at notes name) less = p.kept name above ∙ with_same notes name less in_notes in
      rw e
      (q.kept name (omega arith) ∙ with_same notes₁ name more in_notes₁ ∙ ap (λ (x : Note). counted x more) same
      ∙ sym (with_same notes name more in_notes))
  both_kept i l (no d) =
      q.kept i (omega arith) ∙ with_other notes₁ name more i d ∙ p.kept i l ∙ with_other notes name less i d ∙ sym (with_other notes name more i d)

  later : (j : ℕ) → j < length b → Said (length a + j)
  later j l = let f : from + (length a + j) ≡ from + length a + j = omega arith in rw (f, get_or-append-add a b j (variable [])) (q.noted j l)

  noted_both : Noted text from (a ++ b) (with_arguments notes name more) notes₂
  noted_both = record { kept = λ i l. both_kept i l (ℕ_discrete i name); noted = λ i l. go i l (dec_lt i (length a)) }
    where
      go : (i : ℕ) → i < length (a ++ b) → Dec (i < length a) → Said i
      go i l (yes h) =
          rw (q.kept (from + i) (omega arith), with_other notes₁ name more (from + i) (λ e. omega arith), get_or-append a b (variable []) i h) (p.noted i h)
      go i l (no h) =
          let e : length a + (i - length a) ≡ i = omega arith in
          subst Said e (later (i - length a) (omega (arith, length-append a b)))

-- A name with its arguments counted.
stands_applied : {text : List ℕ} {at after : ℕ} {token : Token} (count : ℕ) → count ≤ 8
    → Stands text (record { place = at; after = after; shape = 0 }) token
    → Stands text (record { place = at; after = after; shape = count * 4096 }) (applied token count)
stands_applied count l (a_variable p u w s) = absurd (omega arith)
stands_applied count l (a_name p u w m s) = a_name p u w l refl

note_applied : {text : List ℕ} {at after : ℕ} {token : Token} (count : ℕ) → count ≤ 8
    → IsNote text (record { place = at; after = after; shape = 0 }) token
    → IsNote text (record { place = at; after = after; shape = count * 4096 }) (applied token count)
note_applied count l n = record { stands = stands_applied count l n.stands; goes_on = n.goes_on }

-- A term, by how it begins.
module _ (text : List ℕ) (at from : ℕ) (notes : List Note) (arguments : List ℕ → Read) (s : Start) where
  stops_here : (refusal : Refusal) → Stops text s.rest s.fault refusal → ReadEnds text from notes from notes (Err refusal) (term_from arguments s)
  stops_here refusal h =
      let f = h.fault_is in
      rw (ne_eqb s.fault 0 (λ e. refused_above refusal (f ∙ e)))
      (record { ends = h; size_is = omega arith; few = omega arith; notes_are = noted_none text from notes })

  module _ (b : Begun) (h : Begins text at s b) (size : length notes ≡ 32) (room : from < 32) where
    abbrev note : Note
    note = record { place = at; after = place_begun b; shape = shape_begun b }

    more_kept : (i : ℕ) → i < from → note_at (set notes from note) i ≡ note_at notes i
    more_kept i l = get_or-set_other notes from i note _ (λ e. omega arith)

    more_here : note_at (set notes from note) from ≡ note
    more_here = get_or-set_same notes from note _ (omega arith)

    alone_here : opens b ≡ false → ReadEnds text from notes (from + 1) (set notes from note) (Ok (place_begun b)) (term_from arguments s)
    alone_here e =
        let g = h.opening.goes in
        rw (eq-eqb s.fault 0 g.fine, sym h.opening.opens_is ∙ e)
        (record {
          ends = record { fine = refl; left = g.left };
          size_is = refl;
          few = omega arith;
          notes_are = noted_before text from note s.token [] notes (set notes from note) (set notes from note) more_kept more_here h.stands
              (noted_none text (from + 1) (set notes from note));
        })

    applies_here : opens b ≡ true → shape_begun b ≡ 0 → (size' : ℕ) (notes' : List Note) (end : Result ℕ Refusal)
        → ReadEnds text (from + 1) (with_arguments (set notes from note) from (arguments s.rest).count) size' notes' end (arguments s.rest)
        → ReadEnds text from notes size' notes' end (term_from arguments s)
    applies_here e z size' notes' end u =
        let g = h.opening.goes in
        let count : ℕ = (arguments s.rest).count in
        let stands : IsNote text (record { place = at; after = place_begun b; shape = 0 }) s.token = rw z at h.stands in
        let inside : from < length (set notes from note) = simp length-set (omega arith) in
        rw (eq-eqb s.fault 0 g.fine, sym h.opening.opens_is ∙ e)
        (record {
          ends = u.ends;
          size_is = u.size_is ∙ omega arith;
          few = omega arith;
          notes_are = noted_before text from (counted note count) (applied s.token count) (arguments s.rest).tokens notes
              (with_arguments (set notes from note) from count) notes' (λ i l. with_other (set notes from note) from count i (λ d. omega arith) ∙ more_kept i l)
              (with_same (set notes from note) from count inside ∙ ap (λ (x : Note). counted x count) more_here) (note_applied count u.few stands) u.notes_are;
        })

-- The same with steps enough.
module _ (text : List ℕ) (at argument from : ℕ) (notes : List Note) where
  pub term_stops : (refusal : Refusal) → Stops text (start_of argument (32 - from) (drop at text)).rest (start_of argument (32 - from) (drop at text)).fault refusal
      → ReadsTerm text at argument from notes from notes (Err refusal)
  unfolding term
  term_stops refusal h zero l = absurd (omega arith)
  term_stops refusal h (suc steps) l = stops_here text at from notes (λ rest. arguments steps 0 (32 - from - 1) rest) _ refusal h

  module _ (b : Begun) (h : Begins text at (start_of argument (32 - from) (drop at text)) b) (size : length notes ≡ 32) (room : from < 32) where
    pub term_alone : opens b ≡ false
        → ReadsTerm text at argument from notes (from + 1) (set notes from (record { place = at; after = place_begun b; shape = shape_begun b })) (Ok (place_begun b))
    unfolding term
    term_alone e zero l = absurd (omega arith)
    term_alone e (suc steps) l = alone_here text at from notes (λ rest. arguments steps 0 (32 - from - 1) rest) _ b h size room e

    pub term_applies : opens b ≡ true → shape_begun b ≡ 0 → (size' : ℕ) (notes' : List Note) (end : Result ℕ Refusal)
        → ReadsArguments text (place_begun b) 0 from (from + 1) (set notes from (record { place = at; after = place_begun b; shape = shape_begun b })) size' notes' end
        → ReadsTerm text at argument from notes size' notes' end
    unfolding term
    term_applies e z size' notes' end u zero l = absurd (omega arith)
    term_applies e z size' notes' end u (suc steps) l =
        let less : 32 - (from + 1) ≡ 32 - from - 1 = omega arith in
        let ends = rw (less, h.opening.goes.left.rest_is) at (u steps (omega arith)) in
        applies_here text at from notes (λ rest. arguments steps 0 (32 - from - 1) rest) _ b h size room e z size' notes' end ends

-- Arguments, by what follows the first of them.
module _ (text : List ℕ) (at begin count name from : ℕ) (notes : List Note) (few : count ≤ 7) (gap : LeftFrom text (skip (drop at text)) begin) (size₁ : ℕ) (notes₁ : List Note)
    (q : Result ℕ Refusal) (h : ReadsTerm text begin (count + 1) from (with_arguments notes name (count + 1)) size₁ notes₁ q) where
  abbrev first : ℕ → Read
  first steps = term steps (count + 1) (32 - from) (skip (drop at text))

  first_ends : (steps : ℕ) → 2 * (32 - from) + 1 ≤ steps → ReadEnds text from (with_arguments notes name (count + 1)) size₁ notes₁ q (first steps)
  first_ends steps l = rw gap.rest_is at (h steps l)

  pub arguments_stop : (refusal : Refusal) → q ≡ Err refusal → ReadsArguments text at count name from notes size₁ notes₁ (Err refusal)
  unfolding arguments after_of
  arguments_stop refusal e zero l = absurd (omega arith)
  arguments_stop refusal e (suc steps) l =
      let o = first_ends steps (omega arith) in
      let s = rw e at o.ends in
      let f = s.fault_is in
      rw (ne_eqb (first steps).fault 0 (λ z. refused_above refusal (f ∙ z)))
      (record { ends = s; size_is = o.size_is; few = omega arith; notes_are = o.notes_are })

  module _ (end : ℕ) (e : q ≡ Ok end) where
    following : (steps : ℕ) → 2 * (32 - from) + 1 ≤ steps → mark (skip (drop end text)) ≡ after_of (first steps).fault (first steps).rest
    unfolding after_of
    following steps l =
        let g = rw e at (first_ends steps l).ends in
        rw (eq-eqb (first steps).fault 0 g.fine, g.left.rest_is)

    pub arguments_broken : (refusal : Refusal) → FollowedByNone text (mark (skip (drop end text))) refusal → ReadsArguments text at count name from notes size₁ notes₁ (Err refusal)
    unfolding arguments
    arguments_broken refusal f zero l = absurd (omega arith)
    arguments_broken refusal f (suc steps) l =
        let o = first_ends steps (omega arith) in
        let a = rw (following steps (omega arith)) at f in
        rw a.no_comma (record { ends = a.stops; size_is = o.size_is; few = omega arith; notes_are = o.notes_are })

    module _ (followed : Followed) (f : FollowedBy text (mark (skip (drop end text))) followed) where
      pub arguments_close : is_comma followed ≡ false → ReadsArguments text at count name from notes size₁ notes₁ (Ok (place_followed followed))
      unfolding arguments
      arguments_close c zero l = absurd (omega arith)
      arguments_close c (suc steps) l =
          let o = first_ends steps (omega arith) in
          let a = rw (following steps (omega arith)) at f in
          rw (sym a.comma_is ∙ c) (record { ends = a.goes; size_is = o.size_is; few = omega arith; notes_are = o.notes_are })

      pub arguments_comma : is_comma followed ≡ true → from < size₁ → size₁ ≤ 32 → name < from → name < length notes → name < length notes₁
          → (size₂ : ℕ) (notes₂ : List Note) (end₂ : Result ℕ Refusal) → ReadsArguments text (place_followed followed) (count + 1) name size₁ notes₁ size₂ notes₂ end₂
          → ReadsArguments text at count name from notes size₂ notes₂ end₂
      unfolding arguments
      arguments_comma c more most above inside inside₁ size₂ notes₂ end₂ u zero l = absurd (omega arith)
      arguments_comma c more most above inside inside₁ size₂ notes₂ end₂ u (suc steps) l =
          let o = first_ends steps (omega arith) in
          let a = rw (following steps (omega arith)) at f in
          let left : 32 - size₁ ≡ 32 - from - length (first steps).tokens = omega (arith, o.size_is) in
          let v = rw (left, a.goes.left.rest_is) at (u steps (omega arith)) in
          let others : List Token = (arguments steps (count + 1) (32 - from - length (first steps).tokens) (after_of (first steps).fault (first steps).rest).rest).tokens in
          rw (sym a.comma_is ∙ c)
          (record {
            ends = v.ends;
            size_is = v.size_is ∙ omega (arith, o.size_is, length-append (first steps).tokens others);
            few = v.few;
            notes_are = noted_both name (count + 1) _ (first steps).tokens others notes notes₁ notes₂ inside inside₁ above o.notes_are (rw o.size_is at v.notes_are);
          })
