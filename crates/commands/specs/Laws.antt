-- What a command says, over any row. That it says so, and that refusals 2 to 5 come exactly when the row, the number and the term
-- call for them, is in proofs/Laws.
use Rattle.std.specs.Prelude.{◌≡◌, ◌⊎◌, ◌↔◌, List, [], Bool, true, not, ℕ, suc, ◌+◌, ◌≤◌, ◌<◌, eqb, length, get_or, take, drop, Option, Some, None, is_some, Result, Ok, Err}
use Rattle.std.proofs.Math.Path.{refl}
use Rattle.std.proofs.Common.{sym, ap, ◌∙◌, inl, inr, append-nil, arith, eq-eqb, ne_eqb, length-take, drop-cons}
use Rattle.std.proofs.Math.Bool.{false}
use Rattle.deciding.specs.Deciding.{both, true_not_false}
use Rattle.term.specs.Reading.{read_term, refused, refusal_of}
use Rattle.term.specs.Whole.{whole_term, whole_alone}
use Rattle.term.specs.declared.reading.Fault.{Fault}
use Rattle.term.specs.declared.reading.Fault.TheVariants.{TooLong, CutShort, FieldSet, AboveFifteen, AboveCount}
use Rattle.commands.specs.Kinds.{Kind, kind_at, act_of, zero_of, term_of, about_rule, with_act, any_number}
use Rattle.commands.specs.Commands.{Command, Refusal, RefusedCommand, UnknownKind, NumberNotZero, Term, refusal_number, command_with, refused_with, command_of, command_in}

-- ---- a wrong kind or number

abbrev pub Wrong : Option Kind → ℕ → Type 0
Wrong k number = (k ≡ None) ⊎ ((zero_of k ≡ true) × ¬ (number ≡ 0))

-- A term follows, and nothing before it is wrong.
abbrev pub TakesTerm : Option Kind → ℕ → Type 0
TakesTerm k number = (term_of k ≡ true) × ¬ (Wrong k number)

pub wrong_to : (zero : Bool) (n : ℕ) → both zero (not (eqb n 0)) ≡ true → (zero ≡ true) × ¬ (n ≡ 0)
wrong_to false n e = absurd (true_not_false e refl)
wrong_to true n e = (refl, λ q. true_not_false e (ap not (eq-eqb n 0 q)))

pub wrong_of : (zero : Bool) (n : ℕ) → zero ≡ true → ¬ (n ≡ 0) → both zero (not (eqb n 0)) ≡ true
wrong_of true n z e = ap not (ne_eqb n 0 e)
wrong_of false n z e = absurd (true_not_false z refl)

-- a rule's number is not wrong
pub right_number : (kind number : ℕ) → with_act about_rule (act_of (kind_at kind)) ≡ true → ¬ (Wrong (kind_at kind) number)
right_number kind number e (inl u) = true_not_false (any_number kind e).0 (ap is_some u)
right_number kind number e (inr x) = true_not_false x.0 (any_number kind e).1

-- ---- a term at fault

-- The term is at fault, with this refusal.
abbrev pub FaultIs : (refusal : ℕ) → List ℕ → Type 0
FaultIs refusal behind = (fault : Fault) × (place : ℕ) × (read_term behind ≡ refused fault place) × (refusal_of fault ≡ refusal)

-- The term's first fault in reading order is this one, at some place.
abbrev pub Faulty : Fault → List ℕ → Type 0
Faulty fault behind = (place : ℕ) × (read_term behind ≡ refused fault place)

pub fault_3 : (behind : List ℕ) → FaultIs 3 behind ↔ Faulty CutShort behind
fault_3 behind = ((λ x. to x.0 x.1 x.2 x.3), (λ x. (CutShort, x.0, x.1, refl)))
  where
    to : (fault : Fault) (place : ℕ) → read_term behind ≡ refused fault place → refusal_of fault ≡ 3 → Faulty CutShort behind
    to CutShort place e f = (place, e)
    to TooLong place e f = absurd (omega arith)
    to FieldSet place e f = absurd (omega arith)
    to AboveFifteen place e f = absurd (omega arith)
    to AboveCount place e f = absurd (omega arith)

pub fault_4 : (behind : List ℕ) → FaultIs 4 behind ↔ (Faulty FieldSet behind ⊎ (Faulty AboveFifteen behind ⊎ Faulty AboveCount behind))
fault_4 behind = ((λ x. to x.0 x.1 x.2 x.3), of)
  where
    to : (fault : Fault) (place : ℕ) → read_term behind ≡ refused fault place → refusal_of fault ≡ 4
        → Faulty FieldSet behind ⊎ (Faulty AboveFifteen behind ⊎ Faulty AboveCount behind)
    to CutShort place e f = absurd (omega arith)
    to TooLong place e f = absurd (omega arith)
    to FieldSet place e f = inl (place, e)
    to AboveFifteen place e f = inr (inl (place, e))
    to AboveCount place e f = inr (inr (place, e))

    of : Faulty FieldSet behind ⊎ (Faulty AboveFifteen behind ⊎ Faulty AboveCount behind) → FaultIs 4 behind
    of (inl x) = (FieldSet, x.0, x.1, refl)
    of (inr (inl x)) = (AboveFifteen, x.0, x.1, refl)
    of (inr (inr x)) = (AboveCount, x.0, x.1, refl)

pub fault_5 : (behind : List ℕ) → FaultIs 5 behind ↔ Faulty TooLong behind
fault_5 behind = ((λ x. to x.0 x.1 x.2 x.3), (λ x. (TooLong, x.0, x.1, refl)))
  where
    to : (fault : Fault) (place : ℕ) → read_term behind ≡ refused fault place → refusal_of fault ≡ 5 → Faulty TooLong behind
    to TooLong place e f = (place, e)
    to CutShort place e f = absurd (omega arith)
    to FieldSet place e f = absurd (omega arith)
    to AboveFifteen place e f = absurd (omega arith)
    to AboveCount place e f = absurd (omega arith)

pub low_fault : (fault : Fault) → refusal_of fault ≤ 5
low_fault TooLong = omega arith
low_fault CutShort = omega arith
low_fault FieldSet = omega arith
low_fault AboveFifteen = omega arith
low_fault AboveCount = omega arith

pub fault_low : (fault : Fault) → 3 ≤ refusal_of fault
fault_low TooLong = omega arith
fault_low CutShort = omega arith
fault_low FieldSet = omega arith
fault_low AboveFifteen = omega arith
fault_low AboveCount = omega arith

pub low_refusal : (why : Refusal) → refusal_number why ≤ 5
low_refusal UnknownKind = omega arith
low_refusal NumberNotZero = omega arith
low_refusal (Term fault) = low_fault fault

pub refusal_low : (why : Refusal) → 2 ≤ refusal_number why
refusal_low UnknownKind = omega arith
refusal_low NumberNotZero = omega arith
refusal_low (Term fault) = let l = fault_low fault in omega arith

-- ---- what a command cell says, with the cells behind it

pub data Said (k : Option Kind) (number : ℕ) (behind : List ℕ) : Result Command RefusedCommand → Type 0 where
  unknown : k ≡ None → Said k number behind (Err (refused_with k number UnknownKind))
  not_zero : zero_of k ≡ true → ¬ (number ≡ 0) → Said k number behind (Err (refused_with k number NumberNotZero))
  faulty : (fault : Fault) (place : ℕ) → TakesTerm k number → read_term behind ≡ refused fault place → Said k number behind (Err (refused_with k number (Term fault)))
  whole : (row : Kind) (size : ℕ) → k ≡ Some row → TakesTerm k number → read_term behind ≡ Ok size → Said k number behind (Ok (command_with row number size))
  plain : (row : Kind) → k ≡ Some row → term_of k ≡ false → ¬ (Wrong k number) → Said k number behind (Ok (command_with row number 0))

-- ---- the term behind a command cell

pub whole_behind : (behind : List ℕ) (size : ℕ) → read_term behind ≡ Ok size → read_term (take size behind) ≡ Ok (length (take size behind))
whole_behind behind size e =
    let t = whole_term behind size e in
    let l : length (take size behind) ≡ size = omega (arith, length-take size behind, t.inside) in
    ap read_term (sym (append-nil (take size behind))) ∙ whole_alone behind [] size e ∙ ap Ok (sym l)

-- ---- the command at a place of the cells

-- the cells from a place on are the cell there and those behind it
pub first_cell : (cells : List ℕ) (at : ℕ) → at < length cells → command_in (drop at cells) ≡ Some (command_of (get_or cells at 0) (drop (at + 1) cells))
first_cell cells at h = ap command_in (drop-cons cells at 0 h)
    ∙ ap (λ (n : ℕ). Some (command_of (get_or cells at 0) (drop n cells))) (let e : suc at ≡ at + 1 = omega arith in e)
