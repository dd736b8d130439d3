-- The stages of a batch: where it stands before each command that it comes to, and which memory is there.
use Rattle.std.specs.Prelude.{◌≡◌, refl, List, [], ◌∷◌, ◌++◌, Bool, true, false, ℕ, suc, ◌+◌, ◌-◌, ◌<◌, eqb, length, take, drop, Result, Ok, Err}
use Rattle.std.proofs.Common.{sym, ap, ◌∙◌, subst, append_assoc, arith, eqb-true}
use Rattle.std.proofs.Math.Path.{fun_ext}
use Rattle.deciding.specs.Deciding.{pick}
use Rattle.book.specs.declared.NotAdded.{NotAdded}
use Rattle.book.specs.Rules.{Rule, plain, Held, nothing, rule, Rules, without_rule, judged, after}
use Rattle.book.specs.Memory.{Passing, rules_in}
use Rattle.commands.specs.Records.{Record, bare}
use Rattle.commands.specs.declared.reader.Command.{Command}
use Rattle.commands.specs.declared.reader.RefusedCommand.{RefusedCommand}
use Rattle.commands.specs.declared.kinds.Act.{Act}
use Rattle.commands.specs.declared.kinds.Act.TheVariants.{Add, Remove, Ask, Show, Room}
use Rattle.commands.specs.Commands.{command_of, command_refusal, command_size}
use Rattle.commands.specs.Laws.{refusal_low}
use Rattle.batch.specs.Effects.{Change, changed, change_of, change_at, Effect, tells, acts, does}
use Rattle.batch.specs.Run.{Outcome, ends_with, is_going_on, run}
use Rattle.batch.specs.Promises.{Changes, Along, none, then}
use Rattle.batch.specs.Laws.{does_stop, any_effect, rest, run_stops, run_goes_on}

-- ---- a command by its refusal number: it was read and the batch goes on, or it is refused and stops the batch

pub read_on : (x : Result Command RefusedCommand) → command_refusal x ≡ 0 → (c : Command) × (x ≡ Ok c)
read_on (Ok c) e = (c, refl)
read_on (Err refused) e = absurd (let l = refusal_low refused.why in omega arith)

pub read_off : (x : Result Command RefusedCommand) → ¬ (command_refusal x ≡ 0) → (refused : RefusedCommand) × (x ≡ Err refused)
read_off (Ok c) n = absurd (n refl)
read_off (Err refused) n = (refused, refl)

pub stop_tells : (rules : Rules) (behind : List ℕ) (x : Result Command RefusedCommand) → ¬ (command_refusal x ≡ 0) → does rules behind x ≡ tells (bare (command_refusal x)) rules
stop_tells rules behind x n =
    let w = read_off x n in does_stop rules behind x w.0 w.1 ∙ ap (λ (r : Result Command RefusedCommand). tells (bare (command_refusal r)) rules) (sym w.1)

module _ (rules : Rules) (c : ℕ) (behind : List ℕ) (room : ℕ) where
  abbrev effect : Effect
  effect = does rules behind (command_of c behind)

  pub stops_with : length effect.answer.cells < room → ¬ (command_refusal (command_of c behind) ≡ 0) → run rules (c ∷ behind) room ≡ ends_with (command_refusal (command_of c behind)) effect
  stops_with h n =
      let w = read_off (command_of c behind) n in
      run_stops rules c behind room w.0 h w.1 ∙ ap (λ (r : Result Command RefusedCommand). ends_with (command_refusal r) effect) (sym w.1)

  pub goes_on_by : length effect.answer.cells < room → command_refusal (command_of c behind) ≡ 0
      → run rules (c ∷ behind) room ≡ is_going_on (suc (command_size (command_of c behind))) effect (rest rules c behind room)
  goes_on_by h z =
      let w = read_on (command_of c behind) z in
      run_goes_on rules c behind room w.0 h w.1
      ∙ ap (λ (r : Result Command RefusedCommand). is_going_on (suc (command_size r)) effect (rest rules c behind room)) (sym w.1)

-- Where a batch stands before a command: the cells used and the records written so far, the changes of the rules so far, the rules held, the cells
-- to come and the room that is left.
pub record Stage : Type 0 where
  pub used : ℕ
  pub records : List Record
  pub changes : List Change
  pub rules : Rules
  pub cells : List ℕ
  pub room : ℕ

abbrev pub begin : Rules → List ℕ → ℕ → Stage
begin rules cells room = record { used = 0; records = []; changes = []; rules = rules; cells = cells; room = room }

-- A command was done, with so many cells of those behind its command cell.
abbrev pub onward : Stage → ℕ → Effect → List ℕ → Stage
onward s size e behind = record {
  used = s.used + suc size;
  records = s.records ++ (e.answer ∷ []);
  changes = s.changes ++ e.changes;
  rules = e.rules;
  cells = drop size behind;
  room = s.room - suc (length e.answer.cells);
}

-- The commands of a batch in turn: it begins, and it goes on after each command that doesn't stop it and whose record has room.
pub data Reaches (rules : Rules) (cells : List ℕ) (room : ℕ) : Stage → Type 0 where
  start : Reaches rules cells room (begin rules cells room)
  next : {s : Stage} {c : ℕ} {behind : List ℕ} → Reaches rules cells room s → s.cells ≡ c ∷ behind → command_refusal (command_of c behind) ≡ 0
      → length (does s.rules behind (command_of c behind)).answer.cells < s.room
      → Reaches rules cells room (onward s (command_size (command_of c behind)) (does s.rules behind (command_of c behind)) behind)

-- ---- what a batch comes to, from a stage on

abbrev pub from : Stage → Outcome → Outcome
from s o = record { stop = o.stop; used = s.used + o.used; records = s.records ++ o.records; rules = o.rules; changes = s.changes ++ o.changes }

same_outcome : (stop : ℕ) (rules : Rules) {u v : ℕ} {rs qs : List Record} {cs ds : List Change} → u ≡ v → rs ≡ qs → cs ≡ ds
    → ◌≡◌ {A = Outcome} (record { stop = stop; used = u; records = rs; rules = rules; changes = cs })
    (record { stop = stop; used = v; records = qs; rules = rules; changes = ds })
same_outcome stop rules {u} {v} {rs} {qs} {cs} {ds} e f g = cc

pub reached : {rules : Rules} {cells : List ℕ} {room : ℕ} {s : Stage} → Reaches rules cells room s → run rules cells room ≡ from s (run s.rules s.cells s.room)
reached {rules} {cells} {room} start = let o = run rules cells room in same_outcome o.stop o.rules (let e : o.used ≡ 0 + o.used = omega arith in e) refl refl
reached (next {s} {c} {behind} before is e l) =
    let x = does s.rules behind (command_of c behind) in
    let size = command_size (command_of c behind) in
    let o = rest s.rules c behind s.room in
    reached before ∙ ap (λ (z : List ℕ). from s (run s.rules z s.room)) is ∙ ap (from s) (goes_on_by s.rules c behind s.room l e)
    ∙ same_outcome o.stop o.rules (let u : s.used + (suc size + o.used) ≡ s.used + suc size + o.used = omega arith in u)
    (sym (append_assoc s.records (x.answer ∷ []) o.records)) (sym (append_assoc s.changes x.changes o.changes))

-- ---- the rules along the changes

abbrev applied : List Change → Rules → Rules
applied [] rules = rules
applied (c ∷ cs) rules = applied cs (changed c rules)

applied_on : (cs ds : List Change) (rules : Rules) → applied (cs ++ ds) rules ≡ applied ds (applied cs rules)
applied_on [] ds rules = refl
applied_on (c ∷ cs) ds rules = applied_on cs ds (changed c rules)

-- a rule that isn't there is removed: nothing has changed
pub none_removed : (rules : Rules) (k : ℕ) → rules k ≡ nothing → without_rule rules k ≡ rules
none_removed rules k e = fun_ext (λ j. go j (eqb j k) refl)
  where
    go : (j : ℕ) (b : Bool) → eqb j k ≡ b → pick b nothing (rules j) ≡ rules j
    go j true q = sym e ∙ ap rules (sym (eqb-true j k q))
    go j false q = refl

add_applied : (a : Result (Unit {0}) NotAdded) (rules : Rules) (k : ℕ) (r : Rule) → after a rules k r ≡ applied (change_of a k r) rules
add_applied (Ok x) rules k r = refl
add_applied (Err why) rules k r = refl

remove_applied : (rules : Rules) (k : ℕ) (h : Held) → rules k ≡ h → without_rule rules k ≡ applied (change_at k h) rules
remove_applied rules k nothing e = none_removed rules k e
remove_applied rules k (rule r) e = refl

-- What a command makes of the rules are its changes.
pub does_applied : (rules : Rules) (behind : List ℕ) (x : Result Command RefusedCommand) → (does rules behind x).rules ≡ applied (does rules behind x).changes rules
does_applied rules behind x = any_effect rules behind x (λ e. e.rules ≡ applied e.changes rules) (λ c. go c.act c.number (take c.size behind)) (λ why. refl)
  where
    go : (a : Act) (k : ℕ) (t : List ℕ) → (acts a rules k t).rules ≡ applied (acts a rules k t).changes rules
    go Add k t = add_applied (judged rules k (plain t)) rules k (plain t)
    go Remove k t = remove_applied rules k (rules k) refl
    go (Ask fq fr) k t = refl
    go Show k t = refl
    go Room k t = refl

pub does_rules : (rules : Rules) (behind : List ℕ) (x : Result Command RefusedCommand) → (does rules behind x).changes ≡ [] → (does rules behind x).rules ≡ rules
does_rules rules behind x e = does_applied rules behind x ∙ ap (λ (cs : List Change). applied cs rules) e

stage_rules : {rules : Rules} {cells : List ℕ} {room : ℕ} {s : Stage} → Reaches rules cells room s → s.rules ≡ applied s.changes rules
stage_rules start = refl
stage_rules {rules} (next {s} {c} {behind} before is e l) =
    let x = does s.rules behind (command_of c behind) in
    does_applied s.rules behind (command_of c behind) ∙ ap (applied x.changes) (stage_rules before) ∙ sym (applied_on s.changes x.changes rules)

-- ---- the memory along the changes

along_passes : {cs : List Change} {ws ws' : List ℕ} → Along cs ws ws' → Passing ws → Passing ws'
along_passes none p = p
along_passes (then c a) p = along_passes a c.passes

along_rules : {cs : List Change} {ws ws' : List ℕ} → Along cs ws ws' → rules_in ws' ≡ applied cs (rules_in ws)
along_rules none = refl
along_rules (then {c = c} {cs = cs} x a) = along_rules a ∙ ap (applied cs) x.rules_are

head_same : {c d : Change} {cs ds : List Change} → c ∷ cs ≡ d ∷ ds → (c ≡ d) × (cs ≡ ds)
head_same e = (cc, cc)

-- the first change, and the others
pub first_of : {ws ws' : List ℕ} {all : List Change} (c : Change) (cs : List Change) → Along all ws ws' → all ≡ c ∷ cs → (m : List ℕ) × Changes c ws m × Along cs m ws'
first_of c cs none e = absurd (let z : ◌≡◌ {A = ℕ} 0 1 = cc in omega arith)
first_of {ws} {ws'} c cs (then {ws₁ = m} x a) e =
    let q = head_same e in
    (m, subst (λ (d : Change). Changes d ws m) q.0 x, subst (λ (ds : List Change). Along ds m ws') q.1 a)

-- some changes, and the others
parted : {ws ws' : List ℕ} (cs ds : List Change) → Along (cs ++ ds) ws ws' → (m : List ℕ) × Along cs ws m × Along ds m ws'
parted {ws} {ws'} [] ds a = (ws, none, a)
parted {ws} {ws'} (c ∷ cs) ds a =
    let f = first_of c (cs ++ ds) a refl in
    let g = parted {ws = f.0} cs ds f.2 in
    (g.0, then f.1 g.1, g.2)

-- The memory at a stage of a batch that makes ws' of ws: it passes, holds the rules of the stage, and lies on the way between the two.
pub record MemoryAt (ws ws' : List ℕ) (s : Stage) (m : List ℕ) : Type 0 where
  pub passes : Passing m
  pub rules_are : rules_in m ≡ s.rules
  pub so_far : Along s.changes ws m
  pub to_come : Along (run s.rules s.cells s.room).changes m ws'

pub memory_at : {ws ws' cells : List ℕ} {room : ℕ} {s : Stage} → Passing ws → Along (run (rules_in ws) cells room).changes ws ws'
    → Reaches (rules_in ws) cells room s → (m : List ℕ) × MemoryAt ws ws' s m
memory_at {ws} {ws'} {cells} {room} {s} p a r =
    let x = parted s.changes (run s.rules s.cells s.room).changes (subst (λ (o : Outcome). Along o.changes ws ws') (reached r) a) in
    (x.0, record { passes = along_passes x.1 p; rules_are = along_rules x.1 ∙ sym (stage_rules r); so_far = x.1; to_come = x.2 })
