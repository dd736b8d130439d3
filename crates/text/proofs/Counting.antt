-- All tokens: those so far have their cells, and the others are numbered from here on.
use mathlib.Core.Path.{◌≡◌, refl, sym, ap, ap₂, subst, ◌∙◌}
use mathlib.Core.List.{List, [], ◌∷◌, ◌++◌, append_assoc, append-nil}
use Prim.Native.Nat.{ℕ, suc, ◌+◌, ◌-◌, ◌≤◌, ◌<◌}
use native.Mathlib.Numerals.{add-one}
use native.Mathlib.Omega.{arith}
use borrow.Author.Tests.{eq-eqb, ne_eqb}
use lib.ListN.{length, get_or, drop, set, replicate, length-append, drop_of_length-le}
use lib.Seq.{drop-cons, set_at}
use Rattle.names.specs.Table.{slots_of, Holds}
use Rattle.text.specs.Term.{Token, variable, shape_of}
use Rattle.text.specs.Naming.{TokenNumber, number_of, TokenCells, named, naming}
use Rattle.text.specs.Text.{padded}
use Rattle.std.specs.Prelude.{Ok, Err}
use Rattle.text.specs.Refusals.{Refusal, number_of_refusal}
use Rattle.text.specs.Leaves.{Note, Stands, a_variable, a_name, GatheredNames, Numbers, NumbersAll}
use Rattle.text.proofs.Reading.{refused_above}

abbrev prepend : List ℕ → TokenCells → TokenCells
prepend cells others = named others.refusal (cells ++ others.cells) others.names

pub record Going (text table : List ℕ) (held : ℕ) (names : List (List ℕ)) (tokens : List Token) (fresh cells : List ℕ) (known : List (List ℕ)) (new i : ℕ) : Type 0 where
  pub done : List ℕ
  pub all : List (List ℕ)
  pub whole : naming names [] tokens ≡ prepend done (naming all known (drop i tokens))
  pub gathered : GatheredNames table fresh held new all
  pub count : length done ≡ i
  pub cells_are : cells ≡ padded done

no_names : Holds (replicate 1024 0) [] 32
unfolding slots_of
no_names = record { written = refl; some = omega arith; most = omega arith; named = λ k l. absurd (omega arith); apart = λ j k l m. absurd (omega arith) }

pub going_start : (text table : List ℕ) (held : ℕ) (names : List (List ℕ)) (free : ℕ) (tokens : List Token) (fresh : List ℕ) (new : ℕ) → fresh ≡ replicate 1024 0 → new ≡ 0
    → Holds table names free → length names ≡ held → Going text table held names tokens fresh (replicate 32 0) [] new 0
going_start text table held names free tokens fresh new e f h c = record {
  done = [];
  all = names;
  whole = refl;
  gathered = record {
    old = names;
    gathered = [];
    free = free;
    names_are = sym (append-nil names);
    holds = h;
    held_is = c;
    fresh_holds = rw (e, f) no_names;
    new_is = sym f;
  };
  count = refl;
  cells_are = refl;
}

stands_shape : {text : List ℕ} {note : Note} {token : Token} → Stands text note token → note.shape ≡ shape_of token
stands_shape (a_variable p u w s) = s
stands_shape (a_name p u w l s) = s

-- One cell more.
one_more : (done : List ℕ) (i cell : ℕ) → length done ≡ i → i < 32 → set (padded done) i cell ≡ padded (done ++ cell ∷ [])
one_more done i cell c l =
    let zeros : 32 - length done ≡ suc (32 - length (done ++ cell ∷ [])) = omega (arith, length-append done (cell ∷ [])) in
    let rest : List ℕ = replicate (32 - length (done ++ cell ∷ [])) 0 in
    ap (λ (n : ℕ). set (done ++ replicate n 0) i cell) zeros ∙ set_at done 0 rest cell i c ∙ sym (append_assoc done (cell ∷ []) rest)

module _ {text table : List ℕ} {held : ℕ} {names : List (List ℕ)} {tokens : List Token} {fresh cells : List ℕ} {known : List (List ℕ)} {new i : ℕ}
    (g : Going text table held names tokens fresh cells known new i) where
  -- All are done.
  pub going_ends : length tokens ≤ i → NumbersAll table fresh held new (naming names [] tokens) (Ok cells)
  unfolding naming
  going_ends l =
      let over : naming names [] tokens ≡ named 0 g.done g.all =
      g.whole ∙ ap (λ (t : List Token). prepend g.done (naming g.all known t)) (drop_of_length-le tokens l) ∙ ap (λ (x : List ℕ). named 0 x g.all) (append-nil g.done) in
      subst (λ (x : TokenCells). NumbersAll table fresh held new x (Ok cells)) (sym over) (record { refusal_is = refl; cells_are = g.cells_are; gathered = λ e. g.gathered })

  module _ (l : i < length tokens) where
    abbrev token : Token
    token = get_or tokens i (variable [])

    abbrev next : TokenNumber
    next = number_of g.all known token

    on : naming names [] tokens ≡ prepend g.done (naming g.all known (token ∷ drop (i + 1) tokens))
    on = g.whole ∙ ap (λ (t : List Token). prepend g.done (naming g.all known t)) (rw add-one (drop-cons tokens i (variable []) l))

    -- The next is refused.
    pub going_stops : {fresh' : List ℕ} {new' : ℕ} (refusal : Refusal) → number_of_refusal refusal ≡ next.refusal
        → NumbersAll table fresh' held new' (naming names [] tokens) (Err refusal)
    unfolding naming
    going_stops {fresh'} {new'} refusal e =
        let d : next.refusal ≡ 0 → ⊥ = λ z. refused_above refusal (e ∙ z) in
        let stop : naming names [] tokens ≡ named next.refusal g.done g.all =
        on ∙ rw (ne_eqb next.refusal 0 d) (ap (λ (x : List ℕ). named next.refusal x g.all) (append-nil g.done)) in
        subst (λ (x : TokenCells). NumbersAll table fresh' held new' x (Err refusal)) (sym stop)
        (record { refusal_is = e; cells_are = tt; gathered = λ z. absurd (d z) })

    -- The next has its cell.
    pub going_on : i < 32 → (note : Note) → Stands text note token → (known' : List (List ℕ)) (fresh' : List ℕ) (new' number : ℕ)
        → Numbers known' table fresh' held new' next (Ok number)
        → Going text table held names tokens fresh' (set cells i (note.shape + number)) known' new' (i + 1)
    unfolding naming
    going_on room note s known' fresh' new' number n =
        let cell : ℕ = note.shape + number in
        let is : cell ≡ shape_of token + next.number = ap₂ (λ (x y : ℕ). x + y) (stands_shape s) n.number_is in
        let rest : TokenCells = naming next.names next.variables (drop (i + 1) tokens) in
        record {
          done = g.done ++ cell ∷ [];
          all = next.names;
          whole = on ∙ rw (eq-eqb next.refusal 0 (sym n.refusal_is), ← is, n.known_is)
              (ap (λ (x : List ℕ). named rest.refusal x rest.names) (sym (append_assoc g.done (cell ∷ []) rest.cells)));
          gathered = n.gathered;
          count = length-append g.done (cell ∷ []) ∙ (let c = g.count in omega arith);
          cells_are = ap (λ (x : List ℕ). set x i cell) g.cells_are ∙ one_more g.done i cell g.count room;
        }
