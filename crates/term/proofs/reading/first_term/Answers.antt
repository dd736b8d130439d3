-- Each way out and the way on is one clause of `read_from`; what stands at the place, and what it gives, are found by the calls alone.
use Rattle.std.proofs.Common.{refl, sym, ◌∙◌, ◌-◌, arith, rules, ◌≡◌, ◌≤◌, ◌<◌, length, get_or, Ok, Err}
use Rattle.term.specs.Reading.{read_term, takes, refused, CutShort}
use Rattle.term.proofs.Turns.{whole, too_long, no_cell, faulty, wants, few}
use Rattle.term.proofs.reading.first_term.Goals as goal

pub loop-place-init : goal.loop-place-init
unfolding read_term
loop-place-init c = record { few = omega arith; same = refl }

pub returns-then-wanted-eq0 : goal.returns-then-wanted-eq0
returns-then-wanted-eq0 c =
    let l = c.loop-place in
    sym (whole (32 - l.place-counter) l.wanted l.known l.place-counter _ _ refl (omega arith)) ∙ l.invariant.same

pub returns-in_err-c : goal.returns-in_err-c
returns-in_err-c c =
    let l = c.loop-place in
    let at : c.from_residual.result ≡ refused CutShort l.place-counter = search rules in
    let none : length c.args.cells.now ≤ l.place-counter = search rules in
    at ∙ sym (no_cell c.args.cells.now l.wanted l.known l.place-counter (omega arith) (omega arith) none) ∙ l.invariant.same

pub returns-in_err-wants : goal.returns-in_err-wants
returns-in_err-wants c =
    let l = c.loop-place in
    let why = c.in_err-wants.field-0.0 in
    let at : c.from_residual-in_err-wants.result ≡ refused why.fault l.place-counter = search rules in
    let bad : Err why.fault ≡ takes l.known c.in_ok-c.c.now = search rules in
    let there : l.place-counter < length c.args.cells.now = search rules in
    let is : c.in_ok-c.c.now ≡ get_or c.args.cells.now l.place-counter 0 = search rules in
    at ∙ sym (faulty c.args.cells.now l.wanted l.known l.place-counter (omega arith) (omega arith) there _ is _ bad) ∙ l.invariant.same

pub overflow_add-wanted : goal.overflow_add-wanted
overflow_add-wanted c =
    let taken : Ok c.in_ok-wants.wants ≡ takes c.loop-place.known c.in_ok-c.c.now = search rules in
    omega (arith, few _ _ _ _ taken)

pub loop-place-preserved : goal.loop-place-preserved
loop-place-preserved c =
    let l = c.loop-place in
    let taken : Ok c.in_ok-wants.wants ≡ takes l.known c.in_ok-c.c.now = search rules in
    let there : l.place-counter < length c.args.cells.now = search rules in
    let is : c.in_ok-c.c.now ≡ get_or c.args.cells.now l.place-counter 0 = search rules in
    record {
      few = omega (arith, few _ _ _ _ taken);
      same = wants c.args.cells.now l.wanted l.known l.place-counter (omega arith) (omega arith) there _ is _ _ taken ∙ l.invariant.same;
    }

pub returns-then-wanted-eq0-2 : goal.returns-then-wanted-eq0-2
returns-then-wanted-eq0-2 c =
    let l = c.loop-place in
    sym (whole (32 - l.place-counter) l.wanted l.known l.place-counter _ 32 (omega arith) (omega arith)) ∙ l.invariant.same

pub returns : goal.returns
returns c =
    let l = c.loop-place in
    sym (too_long (32 - l.place-counter) l.wanted l.known l.place-counter _ 32 (omega arith) (omega arith) (omega arith)) ∙ l.invariant.same
