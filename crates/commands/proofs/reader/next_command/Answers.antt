-- The next cell and the cells behind it say what the cells from the place on say.
use Rattle.std.proofs.Common.{◌≡◌, refl, sym, ap, ◌∙◌, List, Bool, true, false, ℕ, ◌+◌, length, get_or, drop, drop-cons, drop_of_length-le, ltb-true, ltb-false}
use Rattle.std.specs.Prelude.{ltb, Some, Err}
use Rattle.std.specs.Borrow.{Bor}
use Rattle.deciding.specs.Deciding.{pick}
use Rattle.commands.specs.Reader.{cell_in, past}
use Rattle.commands.specs.declared.reader.Reader.{Reader}
use Rattle.commands.specs.Commands.{RefusedCommand, command_of, command_in}
use Rattle.commands.specs.Laws.{first_cell}
use Rattle.commands.proofs.reader.next_command.Goals as goal

module _ (cells : List ℕ) (at c : ℕ) (here : Some c ≡ cell_in (drop at cells)) where
  by_test : (b : Bool) → ltb at (length cells) ≡ b → Some (command_of c (drop (pick b (at + 1) at) cells)) ≡ command_in (drop at cells)
  by_test true e =
      let h = ltb-true at (length cells) e in
      let is : c ≡ get_or cells at 0 = (let r = here ∙ ap cell_in (drop-cons cells at 0 h) in cc) in
      ap (λ (x : ℕ). Some (command_of x (drop (at + 1) cells))) is ∙ sym (first_cell cells at h)
  by_test false e = absurd (let r = here ∙ ap cell_in (drop_of_length-le cells (ltb-false at (length cells) e)) in cc)

  behind : Some (command_of c (drop (past cells at) cells)) ≡ command_in (drop at cells)
  behind = by_test (ltb at (length cells)) refl

module _ (r : Reader) (after : Reader) (c : ℕ) (here : Some c ≡ cell_in (drop r.at r.cells.now)) (same : after.cells ≡ r.cells) (on : after.at ≡ past r.cells.now r.at) where
  read_so : Some (command_of c (drop after.at after.cells.now)) ≡ command_in (drop r.at r.cells.now)
  read_so =
      ap (λ (x : Bor (List ℕ)). Some (command_of c (drop after.at x.now))) same ∙ ap (λ (k : ℕ). Some (command_of c (drop k r.cells.now))) on
      ∙ behind r.cells.now r.at c here

pub returns-in-Ok : goal.returns-in-Ok
returns-in-Ok c =
    let read = rw c.in-Ok.is at c.command_of.ensures in
    ap Some read ∙ read_so c.args.r c.moved_on.result c.in_ok-c.c c.in_ok-c.ensures c.moved_on.ensures.0 c.moved_on.ensures.1

pub returns-in-Err : goal.returns-in-Err
returns-in-Err c =
    let read = rw c.in-Err.is at c.command_of.ensures in
    ap (λ (x : RefusedCommand). Some (Err x)) c.refused.ensures ∙ ap Some read
    ∙ read_so c.args.r c.moved_on.result c.in_ok-c.c c.in_ok-c.ensures c.moved_on.ensures.0 c.moved_on.ensures.1
