-- Laws of what a command says, over any row: refusals 2 to 5 come exactly when the row, the number and the term call for them.
use Rattle.std.specs.Prelude.{◌≡◌, ◌⊎◌, ◌↔◌, List, Bool, true, ℕ, ◌+◌, ◌/◌, ◌%◌, ◌≤◌, ◌<◌, length, get_or, drop, Option, Some, None, Result, Ok, Err}
use Rattle.std.proofs.Math.Path.{refl}
use Rattle.std.proofs.Common.{sym, ap, ◌∙◌, subst, inl, inr, arith}
use Rattle.std.proofs.Math.Bool.{false}
use Rattle.deciding.specs.Deciding.{pick, true_not_false}
use Rattle.term.specs.Reading.{read_term, reading_refusal}
use Rattle.term.specs.Whole.{whole_term}
use Rattle.term.specs.declared.reading.Refused.{Refused}
use Rattle.commands.specs.Kinds.{Act, Kind, kind_at, act_of, term_of, about_term, with_act, term_is}
use Rattle.commands.specs.Commands.{Command, RefusedCommand, NumberNotZero, command_with, refused_with, is_wrong_number, with_term, read_by, command_from, command_in, command_refusal, command_size, command_act, command_number, Read, Told}
use Rattle.commands.specs.Laws.{Wrong, TakesTerm, wrong_to, wrong_of, FaultIs, low_fault, fault_low, low_refusal, refusal_low, Said, unknown, not_zero, faulty, whole, plain, first_cell}

ok_inj : {a b : Command} → ◌≡◌ {A = Result Command RefusedCommand} (Ok a) (Ok b) → a ≡ b
ok_inj e = cc

refused_ok : {P : Type 0} {why : RefusedCommand} {c : Command} → ◌≡◌ {A = Result Command RefusedCommand} (Err why) (Ok c) → P
refused_ok e = absurd cc

-- ---- what a command cell says, with the cells behind it

said_by : (k : Option Kind) (number : ℕ) (behind : List ℕ) → Said k number behind (read_by k number behind)
unfolding read_by
said_by None number behind = unknown refl
said_by (Some k) number behind = go (is_wrong_number k number) refl k.term refl (read_term behind) refl
  where
    right : is_wrong_number k number ≡ false → ¬ (Wrong (Some k) number)
    right e (inl u) = absurd cc
    right e (inr x) = true_not_false (wrong_of k.zero number x.0 x.1) e

    go : (b : Bool) → is_wrong_number k number ≡ b → (t : Bool) → k.term ≡ t → (r : Result ℕ Refused) → read_term behind ≡ r
        → Said (Some k) number behind (pick b (Err (refused_with (Some k) number NumberNotZero)) (pick t (with_term k number r) (Ok (command_with k number 0))))
    go true e t f r q = let w = wrong_to k.zero number e in not_zero w.0 w.1
    go false e true f (Ok size) q = whole k size refl (f, right e) q
    go false e true f (Err r) q = faulty r.fault r.place (f, right e) q
    go false e false f r q = plain k refl f (right e)

module _ (k : Option Kind) (number : ℕ) (behind : List ℕ) where
  abbrev Says : Result Command RefusedCommand → Type 0
  Says = Said k number behind

  abbrev it : Result Command RefusedCommand
  it = read_by k number behind

  pub said : Says it
  said = said_by k number behind

  pub two : command_refusal it ≡ 2 ↔ Wrong k number
  two = (λ e. to it said e, λ w. of it said w)
    where
      to : (r : Result Command RefusedCommand) → Says r → command_refusal r ≡ 2 → Wrong k number
      to r (unknown n) e = inl n
      to r (not_zero z n) e = inr (z, n)
      to r (faulty fault place t q) e = absurd (let l = fault_low fault in omega arith)
      to r (whole row size s t q) e = absurd (omega arith)
      to r (plain row s f n) e = absurd (omega arith)

      of : (r : Result Command RefusedCommand) → Says r → Wrong k number → command_refusal r ≡ 2
      of r (unknown n) w = refl
      of r (not_zero z n) w = refl
      of r (faulty fault place t q) w = absurd (t.1 w)
      of r (whole row size s t q) w = absurd (t.1 w)
      of r (plain row s f n) w = absurd (n w)

  pub term_fault : (r : ℕ) → 3 ≤ r → command_refusal it ≡ r ↔ (TakesTerm k number × FaultIs r behind)
  term_fault r h = (λ e. to it said e, λ w. of it said w.0 w.1)
    where
      to : (x : Result Command RefusedCommand) → Says x → command_refusal x ≡ r → TakesTerm k number × FaultIs r behind
      to x (unknown n) e = absurd (omega arith)
      to x (not_zero z n) e = absurd (omega arith)
      to x (faulty fault place t q) e = (t, (fault, place, q, e))
      to x (whole row size s t q) e = absurd (omega arith)
      to x (plain row s f n) e = absurd (omega arith)

      of : (x : Result Command RefusedCommand) → Says x → TakesTerm k number → FaultIs r behind → command_refusal x ≡ r
      of x (unknown n) t f = absurd (t.1 (inl n))
      of x (not_zero z n) t f = absurd (t.1 (inr (z, n)))
      of x (faulty fault place t' q) t f = ap reading_refusal (sym q ∙ f.2) ∙ f.3
      of x (whole row size s t' q) t f = absurd (let e = ap reading_refusal (sym q ∙ f.2) ∙ f.3 in omega arith)
      of x (plain row s e n) t f = absurd (true_not_false t.0 e)

  -- a whole term
  pub whole_read : (row : Kind) (size : ℕ) → k ≡ Some row → TakesTerm k number → read_term behind ≡ Ok size → it ≡ Ok (command_with row number size)
  whole_read row size s t e = go it said
    where
      go : (x : Result Command RefusedCommand) → Says x → x ≡ Ok (command_with row number size)
      go x (unknown n) = absurd (t.1 (inl n))
      go x (not_zero z n) = absurd (t.1 (inr (z, n)))
      go x (faulty fault place t' q) = absurd (let r = sym q ∙ e in cc)
      go x (whole row' n s' t' q) = let a = sym s' ∙ s in let b = sym q ∙ e in cc
      go x (plain row' s' f n) = absurd (true_not_false t.0 f)

  -- no term
  pub plain_read : (row : Kind) → k ≡ Some row → term_of k ≡ false → ¬ (Wrong k number) → it ≡ Ok (command_with row number 0)
  plain_read row s f n = go it said
    where
      go : (x : Result Command RefusedCommand) → Says x → x ≡ Ok (command_with row number 0)
      go x (unknown u) = absurd (n (inl u))
      go x (not_zero z u) = absurd (n (inr (z, u)))
      go x (faulty fault place t q) = absurd (true_not_false t.0 f)
      go x (whole row' size s' t q) = absurd (true_not_false t.0 f)
      go x (plain row' s' g m) = let a = sym s' ∙ s in cc

  -- whatever is wrong, the act is the row's and the number the cell's
  pub act_told : command_act it ≡ act_of k
  act_told = go it said
    where
      go : (x : Result Command RefusedCommand) → Says x → command_act x ≡ act_of k
      go x (unknown n) = refl
      go x (not_zero z n) = refl
      go x (faulty fault place t q) = refl
      go x (whole row size s t q) = sym (ap act_of s)
      go x (plain row s f n) = sym (ap act_of s)

  pub number_told : command_number it ≡ number
  number_told = go it said
    where
      go : (x : Result Command RefusedCommand) → Says x → command_number x ≡ number
      go x (unknown n) = refl
      go x (not_zero z n) = refl
      go x (faulty fault place t q) = refl
      go x (whole row size s t q) = refl
      go x (plain row s f n) = refl

  -- the same of a command that is not refused
  pub act_is : (c : Command) → it ≡ Ok c → act_of k ≡ Some c.act
  act_is c = go it said
    where
      act : Result Command RefusedCommand → Option Act
      act (Ok c) = Some c.act
      act (Err why) = None

      go : (x : Result Command RefusedCommand) → Says x → x ≡ Ok c → act_of k ≡ Some c.act
      go x (unknown n) e = refused_ok e
      go x (not_zero z n) e = refused_ok e
      go x (faulty fault place t q) e = refused_ok e
      go x (whole row size s t q) e = ap act_of s ∙ ap act e
      go x (plain row s f n) e = ap act_of s ∙ ap act e

  pub number_is : (c : Command) → it ≡ Ok c → c.number ≡ number
  number_is c = go it said
    where
      go : (x : Result Command RefusedCommand) → Says x → x ≡ Ok c → c.number ≡ number
      go x (unknown n) e = refused_ok e
      go x (not_zero z n) e = refused_ok e
      go x (faulty fault place t q) e = refused_ok e
      go x (whole row size s t q) e = ap (λ (c : Command). c.number) (sym (ok_inj e))
      go x (plain row s f n) e = ap (λ (c : Command). c.number) (sym (ok_inj e))

-- it goes on, or stops with 2 to 5
pub stop_range : (r : Result Command RefusedCommand) → (command_refusal r ≡ 0) ⊎ ((2 ≤ command_refusal r) × (command_refusal r ≤ 5))
stop_range (Ok c) = inl refl
stop_range (Err refused) = inr (refusal_low refused.why, low_refusal refused.why)

-- ---- what is known of a command that was read

pub read_of : (kind number : ℕ) (behind : List ℕ) → number < 4096 → (c : Command) → command_from kind number behind ≡ Ok c → Read behind c
read_of kind number behind low c = go (command_from kind number behind) (said (kind_at kind) number behind)
  where
    go : (x : Result Command RefusedCommand) → Said (kind_at kind) number behind x → x ≡ Ok c → Read behind c
    go x (unknown n) e = refused_ok e
    go x (not_zero z n) e = refused_ok e
    go x (faulty fault place t q) e = refused_ok e
    go x (whole row size s t q) e = subst (Read behind) (ok_inj e) (record { number_low = low; inside = (whole_term behind size q).inside; whole = λ a. q })
    go x (plain row s f n) e = subst (Read behind) (ok_inj e)
        (record {
          number_low = low;
          inside = omega arith;
          whole = λ a. absurd (true_not_false (term_is kind ∙ ap (λ (r : Option Kind). with_act about_term (act_of r)) s ∙ a) f);
        })

pub told_of : (kind number : ℕ) (behind : List ℕ) → number < 4096 → Told behind (command_from kind number behind)
told_of kind number behind low = go (command_from kind number behind) (said (kind_at kind) number behind)
  where
    go : (x : Result Command RefusedCommand) → Said (kind_at kind) number behind x → Told behind x
    go x (unknown n) = record { number_low = low; stop_low = omega arith; inside = omega arith; whole = λ e a. absurd (omega arith) }
    go x (not_zero z n) = record { number_low = low; stop_low = omega arith; inside = omega arith; whole = λ e a. absurd (omega arith) }
    go x (faulty fault place t q) = record
        { number_low = low; stop_low = low_fault fault; inside = omega arith; whole = λ e a. absurd (let l = fault_low fault in omega arith) }
    go x (whole row size s t q) = record { number_low = low; stop_low = omega arith; inside = (whole_term behind size q).inside; whole = λ e a. q }
    go x (plain row s f n) = record {
      number_low = low;
      stop_low = omega arith;
      inside = omega arith;
      whole = λ e a. absurd (true_not_false (term_is kind ∙ ap (λ (r : Option Kind). with_act about_term (act_of r)) s ∙ a) f);
    }

-- ---- the command at a place of the cells

pub read_at : (cells : List ℕ) (at : ℕ) → at < length cells → (c : Command) → command_in (drop at cells) ≡ Some (Ok c) → Read (drop (at + 1) cells) c
read_at cells at h c e = read_of (get_or cells at 0 / 4096) (get_or cells at 0 % 4096) (drop (at + 1) cells) (omega arith) c (let r = sym (first_cell cells at h) ∙ e in cc)

pub told_at : (cells : List ℕ) (at : ℕ) → at < length cells → (read : Result Command RefusedCommand) → command_in (drop at cells) ≡ Some read
    → Told (drop (at + 1) cells) read
told_at cells at h read e =
    subst (Told (drop (at + 1) cells)) (let r = sym (first_cell cells at h) ∙ e in cc)
    (told_of (get_or cells at 0 / 4096) (get_or cells at 0 % 4096) (drop (at + 1) cells) (omega arith))
