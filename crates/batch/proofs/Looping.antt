-- What is promised from here on is what is promised from the start: each command done moves 'here' one command on.
use mathlib.Core.Path.{◌≡◌, refl, sym, ap, ◌∙◌, subst}
use mathlib.Core.List.{List, ◌∷◌, ◌++◌, append-nil, append_assoc}
use Prim.Native.Nat.{ℕ, suc, ◌+◌, ◌-◌, ◌≤◌, ◌<◌}
use native.Mathlib.Decide.{dec_lt}
use Rattle.std.specs.Prelude.{Option, Some, None, Result, Ok, Err, IfOk}
use native.Mathlib.Omega.{arith}
use lib.ListN.{length, get_or, take, drop, length-drop, drop_of_length-le, take-append-drop}
use lib.Seq.{take-append-add, drop-append-add, drop-cons, drop-drop, length-take-le, take_all}
use borrow.Rule.Slice.PartMut.{put_mid, mid_of, same_len_mid}
use Rattle.book.specs.Memory.{Passing, rules_in}
use Rattle.commands.specs.declared.reader.Command.{Command}
use Rattle.commands.specs.declared.reader.RefusedCommand.{RefusedCommand}
use Rattle.commands.specs.Commands.{refusal_number, command_of, command_in, Read}
use Rattle.commands.specs.Laws.{first_cell}
use Rattle.batch.specs.Effects.{does}
use Rattle.batch.specs.Promises.{Does, Ran}
use Rattle.commands.proofs.Laws.{read_at}
use Rattle.batch.proofs.Turning.{all_used, no_room, fits, enough, stops, goes_on}

-- What holds before each command, u cells used and w written.
pub record Running (ws₀ ws cells out₀ out : List ℕ) (u w : ℕ) : Type 0 where
  pub passes : Passing ws
  pub inside : u ≤ length cells
  pub long : length out ≡ length out₀
  pub room : w ≤ length out
  pub resumes : (ws' part : List ℕ) (stop used n : ℕ) → Ran ws ws' (drop u cells) (drop w out) part stop used n
      → Ran ws₀ ws' cells out₀ (take w out ++ part) stop (u + used) (w + n)

moved : (ws ws' cells out part part' : List ℕ) (stop used used' n n' : ℕ) → part ≡ part' → used ≡ used' → n ≡ n'
    → Ran ws ws' cells out part stop used n → Ran ws ws' cells out part' stop used' n'
moved ws ws' cells out part part' stop used used' n n' a b c x =
    subst (λ (z : List ℕ). Ran ws ws' cells out z stop used' n') a
    (subst (λ (z : ℕ). Ran ws ws' cells out part stop z n') b (subst (λ (z : ℕ). Ran ws ws' cells out part stop used z) c x))

pub begins : (ws cells out : List ℕ) → Passing ws → Running ws ws cells out out 0 0
begins ws cells out p = record {
  passes = p;
  inside = omega arith;
  long = refl;
  room = omega arith;
  resumes = λ ws' part stop used n x. moved ws ws' cells out part part stop used (0 + used) n (0 + n) refl (omega arith) (omega arith) x;
}

-- All cells are used.
pub finished : (ws₀ ws cells out₀ out : List ℕ) (u w : ℕ) → Running ws₀ ws cells out₀ out u w → length cells ≤ u → Ran ws₀ ws cells out₀ out 0 u w
finished ws₀ ws cells out₀ out u w r h =
    let x = r.resumes ws (drop w out) 0 0 0
    (subst (λ (z : List ℕ). Ran ws ws z (drop w out) (drop w out) 0 0 0) (sym (drop_of_length-le cells h)) (all_used ws (drop w out) r.passes)) in
    moved ws₀ ws cells out₀ _ out 0 (u + 0) u (w + 0) w (take-append-drop w out) (omega arith) (omega arith) x

-- where a command is read there is a cell, and where none is all cells are used
pub some_left : (cells : List ℕ) (u : ℕ) (read : Result Command RefusedCommand) → command_in (drop u cells) ≡ Some read → u < length cells
some_left cells u read e = go (dec_lt u (length cells))
  where
    go : Dec (u < length cells) → u < length cells
    go (yes l) = l
    go (no l) = let z = ap command_in (drop_of_length-le cells {i = u} (omega arith)) in absurd (let x : ◌≡◌ {A = ℕ} 0 1 = cc in omega arith)

pub none_left : (cells : List ℕ) (u : ℕ) → command_in (drop u cells) ≡ None → length cells ≤ u
none_left cells u e = go (dec_lt u (length cells))
  where
    go : Dec (u < length cells) → length cells ≤ u
    go (yes l) = let z = first_cell cells u l in absurd (let x : ◌≡◌ {A = ℕ} 0 1 = cc in omega arith)
    go (no l) = omega arith

-- the cells behind a command cell, as the code lends them
behind_is : (cells : List ℕ) (u : ℕ) → take (length cells - (u + 1)) (drop (u + 1) cells) ≡ drop (u + 1) cells
behind_is cells u = take_all (length cells - (u + 1)) (drop (u + 1) cells) (omega (arith, length-drop (u + 1) cells))

pub read_is : (cells : List ℕ) (u : ℕ) (read : Result Command RefusedCommand) → command_in (drop u cells) ≡ Some read
    → IfOk read (λ c. Read (take (length cells - (u + 1)) (drop (u + 1) cells)) c)
read_is cells u (Ok c) e = subst (λ (l : List ℕ). Read l c) (sym (behind_is cells u)) (read_at cells u (some_left cells u (Ok c) e) c e)
read_is cells u (Err refused) e = tt

-- One turn: before it u cells are used and w written; a command was read and done, and wrote so many cells more.
pub record Turn (ws₀ ws ws₁ cells out₀ out part₁ : List ℕ) (u w : ℕ) (n : Option ℕ) (read : Result Command RefusedCommand) : Type 0 where
  pub running : Running ws₀ ws cells out₀ out u w
  pub reads : command_in (drop u cells) ≡ Some read
  pub done : Does (does (rules_in ws) (take (length cells - (u + 1)) (drop (u + 1) cells)) read) ws ws₁ (mid_of w (length out - w) out) part₁ n
  pub long : length part₁ ≡ length (mid_of w (length out - w) out)

pub turn : {ws₀ ws ws₁ cells out₀ out part₁ : List ℕ} {u w : ℕ} {n : Option ℕ} {read : Result Command RefusedCommand}
    → Running ws₀ ws cells out₀ out u w → command_in (drop u cells) ≡ Some read
    → Does (does (rules_in ws) (take (length cells - (u + 1)) (drop (u + 1) cells)) read) ws ws₁ (mid_of w (length out - w) out) part₁ n
    → length part₁ ≡ length (mid_of w (length out - w) out) → Turn ws₀ ws ws₁ cells out₀ out part₁ u w n read
turn r s d l = record { running = r; reads = s; done = d; long = l }

module _ {ws₀ ws ws₁ cells out₀ out part₁ : List ℕ} {u w : ℕ} {n : Option ℕ} {read : Result Command RefusedCommand}
    (t : Turn ws₀ ws ws₁ cells out₀ out part₁ u w n read) where
  abbrev r : Running ws₀ ws cells out₀ out u w
  r = t.running

  abbrev c : ℕ
  c = get_or cells u 0

  abbrev behind : List ℕ
  behind = drop (u + 1) cells

  abbrev full : List ℕ
  full = put_mid w (length out - w) out part₁

  more : u < length cells
  more = some_left cells u read t.reads

  here : drop u cells ≡ c ∷ behind
  here = drop-cons cells u 0 more ∙ ap (λ (j : ℕ). c ∷ drop j cells) (let e : suc u ≡ u + 1 = omega arith in e)

  lent : mid_of w (length out - w) out ≡ drop w out
  lent = take_all (length out - w) (drop w out) (omega (arith, length-drop w out))

  front_long : length (take w out) ≡ w
  front_long = length-take-le w out r.room

  full_is : full ≡ take w out ++ part₁
  full_is = ap (λ (z : List ℕ). take w out ++ (part₁ ++ z)) (drop_of_length-le (drop w out) {i = length out - w} (omega (arith, length-drop w out)))
      ∙ ap (λ (z : List ℕ). take w out ++ z) (append-nil part₁)

  full_long : length full ≡ length out
  full_long = same_len_mid w (length out - w) out part₁ t.long

  is_command : command_of c behind ≡ read
  is_command = let e = sym (first_cell cells u more) ∙ t.reads in cc

  done : Does (does (rules_in ws) behind (command_of c behind)) ws ws₁ (drop w out) part₁ n
  done = subst (λ (x : Result Command RefusedCommand). Does (does (rules_in ws) behind x) ws ws₁ (drop w out) part₁ n) (sym is_command)
      (subst (λ (z : List ℕ). Does (does (rules_in ws) behind read) ws ws₁ z part₁ n) lent
      (subst (λ (z : List ℕ). Does (does (rules_in ws) z read) ws ws₁ (mid_of w (length out - w) out) part₁ n) (behind_is cells u) t.done))

  from_here : (ws' part : List ℕ) (stop used k : ℕ) → Ran ws ws' (c ∷ behind) (drop w out) part stop used k
      → Ran ws₀ ws' cells out₀ (take w out ++ part) stop (u + used) (w + k)
  from_here ws' part stop used k x = r.resumes ws' part stop used k (subst (λ (z : List ℕ). Ran ws ws' z (drop w out) part stop used k) (sym here) x)

  pub ends_10 : n ≡ None → Ran ws₀ ws₁ cells out₀ full 10 u w
  ends_10 z = moved ws₀ ws₁ cells out₀ _ full 10 (u + 0) u (w + 0) w (sym full_is) (omega arith) (omega arith)
      (from_here ws₁ part₁ 10 0 0 (no_room ws ws₁ behind (drop w out) part₁ c n done r.passes z))

  -- there is room
  module _ {k : ℕ} (z : n ≡ Some k) where
    pub ends_with : (refused : RefusedCommand) → read ≡ Err refused → Ran ws₀ ws₁ cells out₀ full (refusal_number refused.why) u (w + k)
    ends_with refused e =
        moved ws₀ ws₁ cells out₀ _ full (refusal_number refused.why) (u + 0) u (w + k) (w + k) (sym full_is) (omega arith) refl
        (from_here ws₁ part₁ (refusal_number refused.why) 0 k (stops ws ws₁ behind (drop w out) part₁ c n done k z refused (is_command ∙ e)))

    pub fits_in : w + k ≤ length out
    fits_in = omega (arith, enough ws ws₁ behind (drop w out) part₁ c n done k z, length-drop w out, r.room)

    module _ {first : Command} (e : read ≡ Ok first) where
      pub used_up : u + (1 + first.size) ≤ length cells
      used_up = let b = (read_at cells u more first (t.reads ∙ ap Some e)).inside in omega (arith, length-drop (u + 1) cells, more)

      pub again : Running ws₀ ws₁ cells out₀ full (u + (1 + first.size)) (w + k)
      again = record {
        passes = (done.fits (fits ws ws₁ behind (drop w out) part₁ c n done k z)).passes;
        inside = used_up;
        long = full_long ∙ r.long;
        room = omega (arith, full_long, fits_in);
        resumes = λ ws' part stop used j x. moved ws₀ ws' cells out₀ _ _ stop _ _ _ _ (whole part) (count used) (sum j)
            (from_here ws' _ stop _ _ (goes_on ws ws₁ behind (drop w out) part₁ c n done k z first (is_command ∙ e) ws' part
            stop used j (rest ws' part stop used j x)));
      }
        where
          cells_left : drop (u + (1 + first.size)) cells ≡ drop first.size behind
          cells_left = ap (λ (j : ℕ). drop j cells) (let e : u + (1 + first.size) ≡ u + 1 + first.size = omega arith in e)
              ∙ sym (drop-drop first.size (u + 1) cells)

          room_left : drop (w + k) full ≡ drop k part₁
          room_left = ap (drop (w + k)) full_is ∙ ap (λ (j : ℕ). drop (j + k) (take w out ++ part₁)) (sym front_long) ∙ drop-append-add (take w out) part₁ k

          front : take (w + k) full ≡ take w out ++ take k part₁
          front = ap (take (w + k)) full_is ∙ ap (λ (j : ℕ). take (j + k) (take w out ++ part₁)) (sym front_long) ∙ take-append-add (take w out) part₁ k

          rest : (ws' part : List ℕ) (stop used j : ℕ) → Ran ws₁ ws' (drop (u + (1 + first.size)) cells) (drop (w + k) full) part stop used j
              → Ran ws₁ ws' (drop first.size behind) (drop k part₁) part stop used j
          rest ws' part stop used j x =
              subst (λ (y : List ℕ). Ran ws₁ ws' (drop first.size behind) y part stop used j) room_left
              (subst (λ (y : List ℕ). Ran ws₁ ws' y (drop (w + k) full) part stop used j) cells_left x)

          whole : (part : List ℕ) → take w out ++ (take k part₁ ++ part) ≡ take (w + k) full ++ part
          whole part = sym (ap (λ (y : List ℕ). y ++ part) front ∙ append_assoc (take w out) (take k part₁) part)

          count : (used : ℕ) → u + (suc first.size + used) ≡ u + (1 + first.size) + used
          count used = omega arith

          sum : (j : ℕ) → w + (k + j) ≡ w + k + j
          sum j = omega arith
