-- How a term begins and what follows it, way by way.
use mathlib.Core.Path.{◌≡◌, refl, sym, ap, subst, ◌∙◌}
use mathlib.Core.List.{List, [], ◌∷◌}
use mathlib.Core.Bool.{Bool, true, false}
use Prim.Native.Nat.{ℕ, ◌+◌, ◌-◌, ◌≤◌, ◌<◌}
use native.Mathlib.Omega.{arith}
use borrow.Author.Tests.{eq-eqb, ne_eqb}
use lib.ListN.{length, drop}
use lib.Dec.{eqb}
use Rattle.std.specs.Prelude.{Result, Ok, Err}
use Rattle.deciding.specs.Deciding.{pick, true_not_false}
use Rattle.tokens.specs.Bytes.{within, is_upper_byte, is_word_byte, begins, head, tail}
use Rattle.tokens.specs.Tokens.{skip, Got, got, more, bare, token}
use Rattle.tokens.specs.Places.{LeftFrom}
use Rattle.tokens.specs.declared.Broken.{Broken}
use Rattle.tokens.specs.Ahead.{here, head_in, past_head}
use Rattle.text.specs.Term.{variable, name, Start, start, no_start, name_start, start_of, After, mark}
use Rattle.text.specs.Refusals.{Refusal, NoCell, NoTerm, EighthArgument}
use Rattle.text.specs.Leaves.{Begun, Alone, Opens, Followed, Comma, Close, shape_begun, a_variable, a_name, Opening, Named, BeginsAt, Follows, FollowedBy, FollowedByNone}

-- What follows an argument.
module _ (text : List ℕ) (at next byte : ℕ) (gap : LeftFrom text (skip (drop at text)) next) (is : byte ≡ head (drop next text)) where
  marks : (r : Result Followed Refusal) (a : After) → mark (drop next text) ≡ a → Follows text a r → Follows text (mark (skip (drop at text))) r
  marks r a e f = subst (λ (x : After). Follows text x r) (sym e ∙ ap mark gap.rest_is) f

  pub after_comma : byte ≡ 44 → FollowedBy text (mark (skip (drop at text))) (Comma (next + 1))
  unfolding mark
  after_comma e =
      let f : head (drop next text) ≡ 44 = sym is ∙ e in
      marks (Ok (Comma (next + 1))) _ (rw (eq-eqb (head (drop next text)) 44 f))
      (record { goes = record { fine = refl; left = past_head text next (head_in text next (omega arith)) }; comma_is = refl })

  pub after_close : byte ≡ 41 → FollowedBy text (mark (skip (drop at text))) (Close (next + 1))
  unfolding mark
  after_close e =
      let f : head (drop next text) ≡ 41 = sym is ∙ e in
      marks (Ok (Close (next + 1))) _ (rw (ne_eqb (head (drop next text)) 44 (λ x. omega arith), eq-eqb (head (drop next text)) 41 f))
      (record { goes = record { fine = refl; left = past_head text next (head_in text next (omega arith)) }; comma_is = refl })

  pub after_none : (byte ≡ 44 → ⊥) → (byte ≡ 41 → ⊥) → FollowedByNone text (mark (skip (drop at text))) (NoTerm next)
  unfolding mark
  after_none d e =
      marks (Err (NoTerm next)) _ (rw (ne_eqb (head (drop next text)) 44 (λ x. d (is ∙ x)), ne_eqb (head (drop next text)) 41 (λ x. e (is ∙ x))))
      (record { stops = record { fault_is = refl; at = here text next gap.within }; no_comma = refl })

-- A name, and the bracket behind it.
opened : {text : List ℕ} {a : Start} {r : Begun} (b : Start) → a ≡ b → Opening text b r → Opening text a r
opened {text} {a} {r} b e f = subst (λ (x : Start). Opening text x r) (sym e) f

module _ (text : List ℕ) (at : ℕ) (l : at ≤ length text) (next : ℕ) (gap : LeftFrom text (skip (drop at text)) next) where
  module _ (got : Got) (z : got.fault ≡ 0) (rest : drop at text ≡ got.rest) where
    bracket : skip got.rest ≡ drop next text
    bracket = ap skip (sym rest) ∙ sym gap.rest_is

    opens_here : head (drop next text) ≡ 40 → Opening text (name_start got) (Opens (next + 1))
    unfolding name_start
    opens_here e =
        opened (start 0 (name got.bytes 0) true (tail (drop next text))) (rw (eq-eqb got.fault 0 z, bracket, eq-eqb (head (drop next text)) 40 e))
        (record { goes = record { fine = refl; left = past_head text next (head_in text next (omega arith)) }; opens_is = refl })

    alone_here : (head (drop next text) ≡ 40 → ⊥) → Opening text (name_start got) (Alone 0 at)
    unfolding name_start
    alone_here d =
        opened (start 0 (name got.bytes 0) false got.rest) (rw (eq-eqb got.fault 0 z, bracket, ne_eqb (head (drop next text)) 40 d))
        (record { goes = record { fine = refl; left = record { rest_is = rest; within = l } }; opens_is = refl })

  pub name_opens : head (drop next text) ≡ 40 → Named text at (Opens (next + 1))
  name_opens e = record { bare = refl; opening = λ got z rest. opens_here got z rest e }

  pub name_alone : (head (drop next text) ≡ 40 → ⊥) → Named text at (Alone 0 at)
  name_alone d = record { bare = refl; opening = λ got z rest. alone_here got z rest d }

-- A name that begins without a fault is the token.
name_token : (got : Got) → got.fault ≡ 0 → (name_start got).token ≡ name got.bytes 0
unfolding name_start
name_token got z = rw (eq-eqb got.fault 0 z) (go (eqb (head (skip got.rest)) 40))
  where
    go : (b : Bool) → (pick b (start 0 (name got.bytes 0) true (tail (skip got.rest))) (start 0 (name got.bytes 0) false got.rest)).token ≡ name got.bytes 0
    go true = refl
    go false = refl

-- A word is never broken off, and an upper word is bare.
bare_fine : (text : List ℕ) → (bare text).fault ≡ 0
unfolding bare
bare_fine [] = refl
bare_fine (x ∷ xs) = go (is_word_byte x) (bare_fine xs)
  where
    go : (b : Bool) → (bare xs).fault ≡ 0 → (pick b (more x (bare xs)) (got 0 [] (x ∷ xs))).fault ≡ 0
    go true h = h
    go false h = refl

pub upper_bare : (text : List ℕ) → is_upper_byte (head text) ≡ true → token text ≡ bare text
unfolding token within
upper_bare text u = rw (ne_eqb (head text) 39 (λ e. true_not_false u (ap is_upper_byte e)))

-- How a term begins.
module _ (text : List ℕ) (at argument from byte : ℕ) (l : at ≤ length text) (is : byte ≡ head (drop at text)) where
  abbrev Start_is : Result Begun Refusal → Type 0
  Start_is r = BeginsAt text at (start_of argument (32 - from) (drop at text)) r

  begun : (r : Result Begun Refusal) (b : Start) → start_of argument (32 - from) (drop at text) ≡ b → BeginsAt text at b r → Start_is r
  begun r b e f = subst (λ (x : Start). BeginsAt text at x r) (sym e) f

  pub start_none : false ≡ begins byte → Start_is (Err (NoTerm at))
  unfolding start_of
  start_none e = begun (Err (NoTerm at)) (no_start 20 (drop at text)) (rw (← is, ← e)) (record { fault_is = refl; at = here text at l })

  module _ (b : true ≡ begins byte) where
    pub start_eighth : argument ≡ 8 → Start_is (Err (EighthArgument at))
    unfolding start_of
    start_eighth e = begun (Err (EighthArgument at)) (no_start 21 (drop at text)) (rw (← is, ← b, eq-eqb argument 8 e)) (record { fault_is = refl; at = here text at l })

    module _ (d : argument ≡ 8 → ⊥) where
      pub start_full : from ≡ 32 → Start_is (Err (NoCell at))
      unfolding start_of
      start_full e =
          let z : 32 - from ≡ 0 = omega arith in
          begun (Err (NoCell at)) (no_start 5 (drop at text)) (rw (← is, ← b, ne_eqb argument 8 d, eq-eqb (32 - from) 0 z)) (record { fault_is = refl; at = here text at l })

      module _ (room : from < 32) where
        left_over : 32 - from ≡ 0 → ⊥
        left_over e = omega arith

        pub start_variable : true ≡ is_upper_byte byte → (end : ℕ) → LeftFrom text (token (drop at text)).rest end → Start_is (Ok (Alone 32768 end))
        unfolding start_of
        start_variable u end left =
            begun (Ok (Alone 32768 end)) (start 0 (variable (token (drop at text)).bytes) false (token (drop at text)).rest)
            (rw (← is, ← b, ne_eqb argument 8 d, ne_eqb (32 - from) 0 left_over, ← u))
            (record {
              opening = record { goes = record { fine = refl; left = left }; opens_is = refl };
              stands = record { stands = a_variable l (ap is_upper_byte (sym is) ∙ sym u) refl refl; goes_on = λ o. left };
            })

        pub start_name : false ≡ is_upper_byte byte → (r : Begun) → (token (drop at text)).fault ≡ 0 → shape_begun r ≡ 0
            → Opening text (name_start (token (drop at text))) r → Start_is (Ok r)
        unfolding start_of
        start_name u r z s o =
            begun (Ok r) (name_start (token (drop at text))) (rw (← is, ← b, ne_eqb argument 8 d, ne_eqb (32 - from) 0 left_over, ← u))
            (record {
              opening = o;
              stands = record {
                stands = rw (name_token (token (drop at text)) z) (a_name {arity = 0} l (ap is_upper_byte (sym is) ∙ sym u) refl (omega arith) s);
                goes_on = λ o. absurd (true_not_false o (ap is_upper_byte (sym is) ∙ sym u));
              };
            })

        -- A name in quotes that is broken off.
        pub start_broken : (broken : Broken) → 20 ≡ (token (drop at text)).fault
            → LeftFrom text (token (drop at text)).rest broken.at → Start_is (Err (NoTerm broken.at))
        unfolding start_of name_start
        start_broken broken f left = go (is_upper_byte byte) refl
          where
            go : (u : Bool) → is_upper_byte byte ≡ u → Start_is (Err (NoTerm broken.at))
            go true u =
                let x = bare_fine (drop at text) in
                let y : (token (drop at text)).fault ≡ (bare (drop at text)).fault =
                ap (λ (g : Got). g.fault) (upper_bare (drop at text) (ap is_upper_byte (sym is) ∙ u)) in
                absurd (omega arith)
            go false u =
                begun (Err (NoTerm broken.at)) (no_start (token (drop at text)).fault (token (drop at text)).rest)
                (rw (← is, ← b, ne_eqb argument 8 d, ne_eqb (32 - from) 0 left_over, u, ne_eqb (token (drop at text)).fault 0 (λ e. omega arith)))
                (record { fault_is = f; at = left })
