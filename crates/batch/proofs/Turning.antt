-- One command is one step of the definition: its record does not fit, or it stops the batch, or the batch goes on behind it.
use mathlib.Core.Path.{◌≡◌, refl, sym, ap, ap₂, ◌∙◌, subst}
use mathlib.Core.List.{List, [], ◌∷◌, ◌++◌, append-nil, append_assoc}
use Prim.Native.Nat.{ℕ, suc, ◌+◌, ◌-◌, ◌≤◌, ◌<◌}
use native.Mathlib.Omega.{arith}
use native.Mathlib.Decide.{dec_lt}
use lib.ListN.{length, take, drop, length-append, length-drop}
use lib.Seq.{take_at, drop_at, drop-drop}
use Rattle.std.specs.Prelude.{Option, Some, None, Result, Ok, Err}
use Rattle.book.specs.Rules.{Rules}
use Rattle.book.specs.Memory.{Passing, rules_in}
use Rattle.commands.specs.Records.{cells_of, written}
use Rattle.commands.specs.declared.reader.Command.{Command}
use Rattle.commands.specs.declared.reader.RefusedCommand.{RefusedCommand}
use Rattle.commands.specs.Commands.{refusal_number, command_of, command_size}
use Rattle.batch.specs.Effects.{Change, Effect, does}
use Rattle.batch.specs.Run.{Outcome, is_going_on, run}
use Rattle.batch.specs.Promises.{Becomes, Does, Came, Ran}
use Rattle.batch.specs.Laws.{run_none, run_10, run_stops, run_goes_on, along_on}
use Rattle.batch.proofs.Doing.{stays}

-- ---- memory along the changes

becomes : (ws ws₁ ws' : List ℕ) (rules rules' : Rules) (cs ds : List Change) → Becomes ws ws₁ rules cs → Becomes ws₁ ws' rules' ds → Becomes ws ws' rules' (cs ++ ds)
becomes ws ws₁ ws' rules rules' cs ds a b = record { passes = b.passes; rules_are = b.rules_are; along = along_on a.along b.along }

-- ---- no commands

pub all_used : (ws out : List ℕ) → Passing ws → Ran ws ws [] out out 0 0 0
unfolding written
all_used ws out p = subst (λ (o : Outcome). Came o ws ws out out 0 0 0) (sym (run_none (rules_in ws) (length out)))
    (record { stop_is = refl; used_is = refl; written_is = refl; output = refl; book = stays ws p })

-- ---- one command

module _ (ws ws₁ behind out out₁ : List ℕ) (c : ℕ) (n : Option ℕ) where
  abbrev command : Result Command RefusedCommand
  command = command_of c behind

  abbrev e : Effect
  e = does (rules_in ws) behind command

  module _ (done : Does e ws ws₁ out out₁ n) where
    -- where nothing was written there was no room
    short : n ≡ None → length out ≤ length e.answer.cells
    short z = go (dec_lt (length e.answer.cells) (length out))
      where
        go : Dec (length e.answer.cells < length out) → length out ≤ length e.answer.cells
        go (yes l) = let w = (done.writes.fits l).0 in absurd (let x : ◌≡◌ {A = ℕ} 0 1 = cc in omega arith)
        go (no l) = omega arith

    pub no_room : Passing ws → n ≡ None → Ran ws ws₁ (c ∷ behind) out out₁ 10 0 0
    unfolding written
    no_room p z =
        let l = short z in
        subst (λ (o : Outcome). Came o ws ws₁ out out₁ 10 0 0) (sym (run_10 (rules_in ws) c behind (length out) l))
        (record {
          stop_is = refl;
          used_is = refl;
          written_is = refl;
          output = (done.writes.short l).1;
          book = subst
              (λ (z : List ℕ). Becomes ws z (rules_in ws) []) (sym (done.short l)) (stays ws p);
        })

    -- there is room
    module _ (k : ℕ) (z : n ≡ Some k) where
      pub fits : length e.answer.cells < length out
      fits = go (dec_lt (length e.answer.cells) (length out))
        where
          go : Dec (length e.answer.cells < length out) → length e.answer.cells < length out
          go (yes l) = l
          go (no l) = let w = (done.writes.short (omega arith)).0 in absurd (let x : ◌≡◌ {A = ℕ} 0 1 = cc in omega arith)

      wide : length (cells_of e.answer) ≡ k
      wide = let w = (done.writes.fits fits).0 in cc

      pub enough : k ≤ length out
      enough = let f = fits in omega (arith, wide)

      output : out₁ ≡ cells_of e.answer ++ drop k out
      output = (done.writes.fits fits).1 ∙ ap (λ (j : ℕ). cells_of e.answer ++ drop j out) wide

      pub stops : (refused : RefusedCommand) → command ≡ Err refused → Ran ws ws₁ (c ∷ behind) out out₁ (refusal_number refused.why) 0 k
      unfolding written
      stops refused d =
          subst (λ (o : Outcome). Came o ws ws₁ out out₁ (refusal_number refused.why) 0 k) (sym (run_stops (rules_in ws) c behind (length out) refused fits d))
          (record {
            stop_is = refl;
            used_is = refl;
            written_is = sym wide ∙ ap length (sym (append-nil (cells_of e.answer)));
            output = output ∙ ap (λ (l : List ℕ). l ++ drop k out) (sym (append-nil (cells_of e.answer)));
            book = done.fits fits;
          })

      front : take k out₁ ≡ cells_of e.answer
      front = ap (take k) output ∙ take_at (cells_of e.answer) (drop k out) k wide

      back : drop k out₁ ≡ drop k out
      back = ap (drop k) output ∙ drop_at (cells_of e.answer) (drop k out) k wide

      room_left : length out - suc (length e.answer.cells) ≡ length (drop k out₁)
      room_left = ap (λ (j : ℕ). length out - j) wide ∙ sym (length-drop k out) ∙ ap length (sym back)

      module _ (first : Command) (s : command ≡ Ok first) where
        came : (o : Outcome) (ws' part : List ℕ) (stop used j : ℕ) → Came o ws₁ ws' (drop k out₁) part stop used j
            → Came (is_going_on (suc first.size) e o) ws ws' out (take k out₁ ++ part) stop (suc first.size + used) (k + j)
        unfolding written
        came o ws' part stop used j x = record {
          stop_is = x.stop_is;
          used_is = ap (λ (i : ℕ). suc first.size + i) x.used_is;
          written_is = ap₂ (λ (a b : ℕ). a + b) (sym wide) x.written_is ∙ sym (length-append (cells_of e.answer) (written o.records));
          output = ap₂ (λ (a b : List ℕ). a ++ b) front
              (x.output ∙ ap (λ (l : List ℕ). written o.records ++ l) (ap (drop j) back ∙ drop-drop j k out))
              ∙ sym (append_assoc (cells_of e.answer) (written o.records) (drop (k + j) out));
          book = becomes ws ws₁ ws' e.rules o.rules e.changes o.changes (done.fits fits) x.book;
        }

        pub goes_on : (ws' part : List ℕ) (stop used j : ℕ) → Ran ws₁ ws' (drop first.size behind) (drop k out₁) part stop used j
            → Ran ws ws' (c ∷ behind) out (take k out₁ ++ part) stop (suc first.size + used) (k + j)
        goes_on ws' part stop used j x = subst (λ (o : Outcome). Came o ws ws' out (take k out₁ ++ part) stop (suc first.size + used) (k + j))
            (sym is) (came _ ws' part stop used j x)
          where
            size : command_size command ≡ first.size
            size = ap command_size s

            is : run (rules_in ws) (c ∷ behind) (length out) ≡ is_going_on (suc first.size) e (run (rules_in ws₁) (drop first.size behind) (length (drop k out₁)))
            is =
                run_goes_on (rules_in ws) c behind (length out) first fits s
                ∙ ap (λ (i : ℕ). is_going_on (suc first.size) e (run e.rules (drop i behind) (length out - suc (length e.answer.cells)))) size
                ∙ ap (is_going_on (suc first.size) e) (ap₂ (λ (r : Rules) (i : ℕ). run r (drop first.size behind) i) (sym (done.fits fits).rules_are) room_left)
