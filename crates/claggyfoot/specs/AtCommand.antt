-- From `run` to the call: at each command that a batch comes to, the call shows what `run` says of it.
use Rattle.std.specs.Prelude.{◌≡◌, ◌⊎◌, ◌↔◌, take, drop, Result, Ok, Err}
use Rattle.std.proofs.Math.Path.{refl, ap}
use Rattle.std.proofs.Common.{sym, ap₂, ◌∙◌, subst, inl, inr, length-drop}
use mathlib.Core.List.{List, [], ◌∷◌, ◌++◌, append-nil, append_assoc}
use Prim.Native.Nat.{ℕ, zero, suc, ◌+◌, ◌-◌, ◌*◌, ◌/◌, ◌%◌, ◌≤◌, ◌<◌}
use native.Mathlib.Omega.{arith}
use Rattle.std.proofs.Math.Decide.{ℕ_discrete, dec_lt}
use Rattle.std.proofs.Math.ListN.{length, get_or, length-append}
use Rattle.std.proofs.Math.Seq.{get_or-append_seam}
use Rattle.term.specs.Whole.{whole_term}
use Rattle.book.specs.declared.NotAdded.{NotAdded}
use Rattle.book.specs.Rules.{Rule, Held, nothing, rule, Rules, with_rule, nodes_of, judged, refusal_of_add, after}
use Rattle.book.specs.Memory.{Passing, rules_in}
use Rattle.book.specs.Facts.{Limited, limited}
use Rattle.questions.specs.Demand2.{never_more}
use Rattle.commands.specs.Records.{Record, bare, written}
use Rattle.commands.specs.declared.reader.Command.{Command}
use Rattle.commands.specs.declared.kinds.Act.{Act}
use Rattle.commands.specs.declared.reader.RefusedCommand.{RefusedCommand}
use Rattle.commands.specs.declared.kinds.Act.TheVariants.{Add, Remove, Ask, Show, Room}
use Rattle.commands.specs.Kinds.{mode_of, kind_at}
use Rattle.commands.specs.Commands.{command_of, command_refusal}
use Rattle.commands.specs.Laws.{TakesTerm, FaultIs, low_refusal}
use Rattle.commands.proofs.Laws.{term_fault}
use Rattle.batch.specs.Effects.{Change, more, change_of, Effect, shown, tells, acts, does}
use Rattle.batch.specs.Run.{Outcome, ends_with, is_going_on, run}
use Rattle.batch.specs.Promises.{Came, Changes, Along, none, then, ran, turned_away, passing}
use Rattle.batch.specs.Laws.{does_act, any_effect, rest, run_none, run_10, along_on, unchanged}
use Rattle.claggyfoot.specs.Stages.{stop_tells, stops_with, goes_on_by, Stage, onward, Reaches, start, next, from, reached, does_rules, first_of, MemoryAt, memory_at}
use Rattle.claggyfoot.specs.Calls.{Exactly, Call, Kept, CameTo, Idle, NodesTaken, effect_of, size_of, rule_of, StopsHere, Answered, Ended, GoneOn, RefusedOn, StoppedBy}
use Rattle.claggyfoot.specs.NewNodes.{InUse, free_below, which_nodes}
use Rattle.claggyfoot.specs.Refusals.{AddsTerm, add_refused, goes_on_with, is_added, told_only, refused_stays}

-- ---- records one after another

written_on : (rs qs : List Record) → written (rs ++ qs) ≡ written rs ++ written qs
unfolding written
written_on [] qs = refl
written_on (r ∷ rs) qs = ap (λ (z : List ℕ). ((4096 * r.refusal + length r.cells) ∷ r.cells) ++ z) (written_on rs qs)
    ∙ sym (append_assoc ((4096 * r.refusal + length r.cells) ∷ r.cells) (written rs) (written qs))

module _ (rs : List Record) (a : Record) (qs : List Record) where
  -- the first cell of a record
  pub first_cell : (out : List ℕ) → get_or (written (rs ++ (a ∷ qs)) ++ out) (length (written rs)) 0 ≡ 4096 * a.refusal + length a.cells
  unfolding written
  first_cell out =
      ap (λ (z : List ℕ). get_or (z ++ out) (length (written rs)) 0) (written_on rs (a ∷ qs))
      ∙ ap (λ (z : List ℕ). get_or z (length (written rs)) 0) (append_assoc (written rs) (written (a ∷ qs)) out)
      ∙ get_or-append_seam (written rs) (4096 * a.refusal + length a.cells) ((a.cells ++ written qs) ++ out) 0

  pub written_past : length (written rs) < length (written (rs ++ (a ∷ qs)))
  unfolding written
  written_past =
      let e = ap length (written_on rs (a ∷ qs)) ∙ length-append (written rs) (written (a ∷ qs)) in
      let f : length (written (a ∷ qs)) ≡ suc (length (a.cells ++ written qs)) = refl in
      omega arith

-- ---- one command

-- a command's record, where it is refused, has no further cells
shown_bare : (h : Held) → ¬ ((shown h).refusal ≡ 0) → shown h ≡ bare (shown h).refusal
shown_bare nothing n = refl
shown_bare (rule r) n = absurd (n refl)

pub refused_bare : (rules : Rules) (behind : List ℕ) (x : Result Command RefusedCommand) → ¬ ((does rules behind x).answer.refusal ≡ 0)
    → (does rules behind x).answer ≡ bare (does rules behind x).answer.refusal
refused_bare rules behind x = any_effect rules behind x (λ e. ¬ (e.answer.refusal ≡ 0) → e.answer ≡ bare e.answer.refusal)
    (λ c. go c.act c.number (take c.size behind)) (λ why n. refl)
  where
    go : (a : Act) (k : ℕ) (t : List ℕ) → ¬ ((acts a rules k t).answer.refusal ≡ 0) → (acts a rules k t).answer ≡ bare (acts a rules k t).answer.refusal
    go Add k t n = refl
    go Remove k t n = refl
    go (Ask fq fr) k t n = absurd (n refl)
    go Show k t n = shown_bare (rules k) n
    go Room k t n = absurd (n refl)

-- a record's count has room in its 12 bits
short_record : (rules : Rules) → Limited rules → (behind : List ℕ) (x : Result Command RefusedCommand) → length (does rules behind x).answer.cells < 4096
short_record rules l behind x = any_effect rules behind x (λ e. length e.answer.cells < 4096) (λ c. go c.act c.number (take c.size behind)) (λ why. omega arith)
  where
    showing : (k : ℕ) (h : Held) → rules k ≡ h → length (shown h).cells < 4096
    showing k nothing e = omega arith
    showing k (rule r) e = let a = (whole_term r.term (length r.term) (l.whole k r e)).short in omega arith

    go : (a : Act) (k : ℕ) (t : List ℕ) → length (acts a rules k t).answer.cells < 4096
    go Add k t = omega arith
    go Remove k t = omega arith
    go (Ask fq fr) k t = let a = never_more (mode_of fq fr) t rules in let b = l.few in omega arith
    go Show k t = showing k (rules k) refl
    go Room k t = omega arith

low_stop : (x : Result Command RefusedCommand) → command_refusal x ≤ 5
low_stop (Ok c) = omega arith
low_stop (Err refused) = low_refusal refused.why

-- a command that stops the batch only tells with which number
pub does_stops : (rules : Rules) (behind : List ℕ) (x : Result Command RefusedCommand) (r : ℕ) → ¬ (r ≡ 0) → command_refusal x ≡ r → does rules behind x ≡ tells (bare r) rules
does_stops rules behind x r n e = stop_tells rules behind x (λ z. n (sym e ∙ z)) ∙ ap (λ (j : ℕ). tells (bare j) rules) e

-- what a refused command does: it tells its refusal, and nothing else
pub refused_tells : (rules : Rules) (behind : List ℕ) (x : Result Command RefusedCommand) (r : ℕ) → ¬ (r ≡ 0) → (does rules behind x).answer.refusal ≡ r
    → does rules behind x ≡ tells (bare r) rules
refused_tells rules behind x r n e =
    let some : ¬ ((does rules behind x).answer.refusal ≡ 0) = λ z. n (sym e ∙ z) in
    let a : (does rules behind x).answer ≡ bare r = refused_bare rules behind x some ∙ ap bare e in
    let b : (does rules behind x).changes ≡ [] = refused_stays rules behind x some in
    same a (does_rules rules behind x b) b
  where
    same : {a b : Record} {p q : Rules} {cs ds : List Change} → a ≡ b → p ≡ q → cs ≡ ds
        → ◌≡◌ {A = Effect} (record { answer = a; rules = p; changes = cs }) (record { answer = b; rules = q; changes = ds })
    same e f g = cc

-- ---- at the call

module _ {call : Call} {s : Stage} {c : ℕ} {behind : List ℕ} (at : CameTo call s c behind) where
  abbrev command : Result Command RefusedCommand
  command = command_of c behind

  abbrev effect : Effect
  effect = effect_of s c behind

  came : Came (run (rules_in call.book) call.cells (length call.output)) call.book call.book' call.output call.output' call.stop call.used call.written_cells
  came = passing at.kept at.passes

  comes : (o : Outcome) → run s.rules (c ∷ behind) s.room ≡ o
      → Came (from s o) call.book call.book' call.output call.output' call.stop call.used call.written_cells
  comes o e = subst (λ (z : Outcome). Came z call.book call.book' call.output call.output' call.stop call.used call.written_cells)
      (reached at.reaches ∙ ap (λ (z : List ℕ). from s (run s.rules z s.room)) at.here ∙ ap (from s) e) came

  pub memory : (m : List ℕ) × MemoryAt call.book call.book' s m
  memory = memory_at at.passes came.book.along at.reaches

  pub limits : Limited s.rules
  limits = let m = memory in subst Limited m.1.rules_are (limited m.0 m.1.passes)

  -- it ends here, with these records more and no change
  ends_here : (stop : ℕ) (qs : List Record)
      → run s.rules (c ∷ behind) s.room ≡ record { stop = stop; used = 0; records = qs; rules = s.rules; changes = [] } → Ended call s stop (s.records ++ qs)
  ends_here stop qs e =
      let x = comes (record { stop = stop; used = 0; records = qs; rules = s.rules; changes = [] }) e in
      record {
        stop_is = x.stop_is;
        used_is = x.used_is ∙ (let z : s.used + 0 ≡ s.used = omega arith in z);
        written_is = x.written_is;
        output_is = x.output;
        rules_are = x.book.rules_are;
        memory_is = record {
          passes = x.book.passes;
          rules_are = x.book.rules_are;
          so_far = subst (λ (cs : List Change). Along cs call.book call.book') (append-nil s.changes) x.book.along;
          to_come = subst (λ (cs : List Change). Along cs call.book' call.book')
              (sym (ap (λ (z : List ℕ). (run s.rules z s.room).changes) at.here ∙ ap (λ (o : Outcome). o.changes) e)) none;
        };
      }

  pub ended_10 : s.room ≤ length effect.answer.cells → Ended call s 10 s.records
  ended_10 l = subst (Ended call s 10) (append-nil s.records) (ends_here 10 [] (run_10 s.rules c behind s.room l))

  pub ended_by : (r : ℕ) → ¬ (r ≡ 0) → command_refusal command ≡ r → 0 < s.room → StoppedBy call s r
  ended_by r n e h =
      let same : effect ≡ tells (bare r) s.rules = does_stops s.rules behind command r n e in
      let few : length effect.answer.cells < s.room = subst (λ (x : Effect). length x.answer.cells < s.room) (sym same) h in
      ends_here r (bare r ∷ []) (stops_with s.rules c behind s.room few (λ z. n (sym e ∙ z)) ∙ ap₂ ends_with e same)

  pub gone_on : length effect.answer.cells < s.room → command_refusal command ≡ 0 → GoneOn call s effect.answer (onward s (size_of c behind) effect behind)
  gone_on l z =
      let o = rest s.rules c behind s.room in
      let x = comes (is_going_on (suc (size_of c behind)) effect o) (goes_on_by s.rules c behind s.room l z) in
      record {
        after = o.records;
        written_is = x.written_is;
        output_is = x.output;
        counted = let u : call.used ≡ s.used + (suc (size_of c behind) + o.used) = x.used_is in omega arith;
        reaches = next at.reaches at.here z l;
      }

  -- ---- what a caller sees of its refusal

  -- it ends here exactly when its record has no room or it stops the batch
  sees : length effect.answer.cells < s.room → Answered call s effect.answer.refusal
  sees l = go (ℕ_discrete (command_refusal command) 0)
    where
      low : length effect.answer.cells < 4096
      low = short_record s.rules limits behind command

      with_records : (qs : List Record) → call.written_cells ≡ length (written (s.records ++ (effect.answer ∷ qs)))
          → call.output' ≡ written (s.records ++ (effect.answer ∷ qs)) ++ drop call.written_cells call.output → Answered call s effect.answer.refusal
      with_records qs w o =
          let p = written_past s.records effect.answer qs in
          let f : get_or call.output' (length (written s.records)) 0
          ≡ 4096 * effect.answer.refusal + length effect.answer.cells = ap (λ (z : List ℕ). get_or z (length (written s.records)) 0) o
          ∙ first_cell s.records effect.answer qs (drop call.written_cells call.output) in
          let d = low in
          (omega arith, omega arith)

      go : Dec (command_refusal command ≡ 0) → Answered call s effect.answer.refusal
      go (yes z) = let g = gone_on l z in with_records g.after g.written_is g.output_is
      go (no z) =
          let same = does_stops s.rules behind command (command_refusal command) z refl in
          let x = ended_by (command_refusal command) z refl (omega arith) in
          let e : bare (command_refusal command) ≡ effect.answer = ap (λ (f : Effect). f.answer) (sym same) in
          with_records [] (x.written_is ∙ ap (λ (a : Record). length (written (s.records ++ (a ∷ [])))) e)
          (x.output_is ∙ ap (λ (a : Record). written (s.records ++ (a ∷ [])) ++ drop call.written_cells call.output) e)

  pub answered : (r : ℕ) → Answered call s r ↔ ((length effect.answer.cells < s.room) × (effect.answer.refusal ≡ r))
  answered r = (λ a. to a (dec_lt (length effect.answer.cells) s.room), λ x. subst (Answered call s) x.1 (sees x.0))
    where
      to : Answered call s r → Dec (length effect.answer.cells < s.room) → (length effect.answer.cells < s.room) × (effect.answer.refusal ≡ r)
      to a (yes l) = (l, sym (sees l).1 ∙ a.1)
      to a (no l) = absurd (let w = (ended_10 (omega arith)).written_is in let p = a.0 in omega arith)

  -- ---- exactly when

  -- it stops here with r, and not for want of room
  stops_only : (r : ℕ) → ¬ (r ≡ 0) → ¬ (r ≡ 10) → StopsHere call s r → (0 < s.room) × ((command_refusal command) ≡ r)
  stops_only r n d x = go (dec_lt (length effect.answer.cells) s.room) (ℕ_discrete (command_refusal command) 0)
    where
      go : Dec (length effect.answer.cells < s.room) → Dec (command_refusal command ≡ 0) → (0 < s.room) × ((command_refusal command) ≡ r)
      go (no l) z = absurd (d (sym x.0 ∙ (ended_10 (omega arith)).stop_is))
      go (yes l) (yes z) = absurd (let g = (gone_on l z).counted in let u = x.1 in omega arith)
      go (yes l) (no z) =
          (omega arith, sym (ended_by (command_refusal command) z refl (omega arith)).stop_is ∙ x.0)

  pub stops_exactly : (r : ℕ) → ¬ (r ≡ 0) → ¬ (r ≡ 10) → {P : Type 0} → command_refusal command ≡ r ↔ P → Exactly (StopsHere call s r) ((0 < s.room) × P) (StoppedBy call s r)
  stops_exactly r n d {P} w = (((λ x. let y = stops_only r n d x in (y.0, w.0 y.1)), (λ y. let e = all y in (e.stop_is, e.used_is))), all)
    where
      all : (0 < s.room) × P → StoppedBy call s r
      all y = ended_by r n (w.1 y.1) y.0

  -- the batch goes on behind a refused command: the same words
  pub idle_stays : effect.changes ≡ [] → length effect.answer.cells < s.room → command_refusal command ≡ 0 → (m : List ℕ)
      → MemoryAt call.book call.book' s m → MemoryAt call.book call.book' (onward s (size_of c behind) effect behind) m
  idle_stays e l z m x = record {
    passes = x.passes;
    rules_are = x.rules_are ∙ sym (does_rules s.rules behind command e);
    so_far = subst (λ (cs : List Change). Along cs call.book m) (sym (ap (λ (cs : List Change). s.changes ++ cs) e ∙ append-nil s.changes)) x.so_far;
    to_come = subst (λ (cs : List Change). Along cs m call.book')
        (ap (λ (y : List ℕ). (run s.rules y s.room).changes) at.here ∙ ap (λ (o : Outcome). o.changes) (goes_on_by s.rules c behind s.room l z)
        ∙ ap (λ (cs : List Change). cs ++ (rest s.rules c behind s.room).changes) e) x.to_come;
  }

  pub refused_on : (r : ℕ) → ¬ (r ≡ 0) → command_refusal command ≡ 0 → effect.answer.refusal ≡ r → 0 < s.room → RefusedOn call s r c behind
  refused_on r n z e h =
      let same = refused_tells s.rules behind command r n e in
      let few : length effect.answer.cells < s.room = subst (λ (x : Effect). length x.answer.cells < s.room) (sym same) h in
      record {
        goes_on = subst (λ (f : Effect). GoneOn call s f.answer (onward s (size_of c behind) f behind)) same (gone_on few z);
        same_words = λ m x. subst (λ (f : Effect). MemoryAt call.book call.book' (onward s (size_of c behind) f behind) m) same
            (idle_stays (ap (λ (f : Effect). f.changes) same) few z m x);
      }

  pub refused_exactly : (r : ℕ) → ¬ (r ≡ 0) → (effect.answer.refusal ≡ r → command_refusal command ≡ 0) → {P : Type 0} → effect.answer.refusal ≡ r ↔ P
      → Exactly (Answered call s r) ((0 < s.room) × P) (RefusedOn call s r c behind)
  refused_exactly r n goes {P} w = (
    (
      (λ a. let x = (answered r).0 a in (let l = x.0 in omega arith, w.0 x.1)),
      (λ y. let e = w.1 y.1 in (answered r).1
          (few e y.0, e)),
    ),
    (λ y. let e = w.1 y.1 in refused_on r n (goes e) e y.0),
  )
    where
      few : effect.answer.refusal ≡ r → 0 < s.room → length effect.answer.cells < s.room
      few e h = subst (λ (x : Effect). length x.answer.cells < s.room) (sym (refused_tells s.rules behind command r n e)) h

  -- 10: the record has no room
  pub ten : Exactly (StopsHere call s 10) (s.room ≤ length effect.answer.cells) (Ended call s 10 s.records)
  ten = (((λ x. to x (dec_lt (length effect.answer.cells) s.room)), (λ l. let e = ended_10 l in (e.stop_is, e.used_is))), ended_10)
    where
      to : StopsHere call s 10 → Dec (length effect.answer.cells < s.room) → s.room ≤ length effect.answer.cells
      to x (no l) = omega arith
      to x (yes l) = go (ℕ_discrete (command_refusal command) 0)
        where
          go : Dec (command_refusal command ≡ 0) → s.room ≤ length effect.answer.cells
          go (yes z) = absurd (let g = (gone_on l z).counted in let u = x.1 in omega arith)
          go (no z) = absurd (let e : (command_refusal command) ≡ 10 = sym (ended_by (command_refusal command) z refl (omega arith)).stop_is ∙ x.0 in
              let low = low_stop command in omega arith)

  -- 3, 4, 5; and 6, 8, 9
  pub fault_exactly : (r : ℕ) → 3 ≤ r → ¬ (r ≡ 10) → {P : Type 0} → FaultIs r behind ↔ P
      → Exactly (StopsHere call s r) ((0 < s.room) × (TakesTerm (kind_at (c / 4096)) (c % 4096) × P)) (StoppedBy call s r)
  fault_exactly r h d {P} w =
      let t = term_fault (kind_at (c / 4096)) (c % 4096) behind r h in
      stops_exactly r (λ e. absurd (omega arith)) d {P = TakesTerm (kind_at (c / 4096)) (c % 4096) × P}
      ((λ e. let x = t.0 e in (x.0, w.0 x.1)), (λ x. t.1 (x.0, w.1 x.1)))

  pub add_exactly : (r : ℕ) → 6 ≤ r → ¬ (r ≡ 7) → {P : Type 0} → refusal_of_add (judged s.rules (c % 4096) (rule_of c behind)) ≡ r ↔ P
      → Exactly (Answered call s r) ((0 < s.room) × (AddsTerm (kind_at (c / 4096)) behind (size_of c behind) × P)) (RefusedOn call s r c behind)
  add_exactly r h n {P} w =
      let t = add_refused s.rules (c / 4096) (c % 4096) (omega arith) behind r h n in
      refused_exactly r (λ e. absurd (omega arith))
      (goes_on_with s.rules (c / 4096) (c % 4096) (omega arith) behind r (λ x. let a = x.1 in omega arith))
      {P = AddsTerm (kind_at (c / 4096)) behind (size_of c behind) × P}
      ((λ e. let x = t.0 e in (x.0, w.0 x.1)), (λ x. t.1 (x.0, w.1 x.1)))

  -- ---- an add that takes effect

  goes_on : AddsTerm (kind_at (c / 4096)) behind (size_of c behind) → command_refusal command ≡ 0
  goes_on x = ap command_refusal (is_added s.rules (c / 4096) (c % 4096) (omega arith) behind (size_of c behind) x)

  taken_does : AddsTerm (kind_at (c / 4096)) behind (size_of c behind) → judged s.rules (c % 4096) (rule_of c behind) ≡ Ok tt
      → effect ≡ record { answer = bare 0; rules = with_rule s.rules (c % 4096) (rule_of c behind); changes = more (c % 4096) (rule_of c behind) ∷ [] }
  taken_does x e =
      let k = c % 4096 in
      does_act s.rules behind command (record { act = Add; number = k; size = size_of c behind })
      (is_added s.rules (c / 4096) k (omega arith) behind (size_of c behind) x)
      ∙ ap
      (λ (a : Result (Unit {0}) NotAdded). record {
        answer = bare (refusal_of_add a);
        rules = after a s.rules k (rule_of c behind);
        changes = change_of a k (rule_of c behind);
      }) e

  pub nodes_taken : 0 < s.room → AddsTerm (kind_at (c / 4096)) behind (size_of c behind) → judged s.rules (c % 4096) (rule_of c behind) ≡ Ok tt
      → NodesTaken call s (onward s (size_of c behind) effect behind)
  nodes_taken h x e =
      record {
        before = m.0;
        after = f.0;
        at_stage = m.1;
        at_next = record {
          passes = f.1.passes;
          rules_are = held;
          so_far = subst (λ (cs : List Change). Along (s.changes ++ cs) call.book f.0) (sym new) (along_on m.1.so_far (then f.1 none));
          to_come = f.2;
        };
        exactly = λ n l. subst (λ (r : Rules). InUse f.0 n ↔ (InUse m.0 n ⊎ (free_below m.0 n < nodes_of r - nodes_of s.rules))) held
            (subst (λ (r : Rules). InUse f.0 n ↔ (InUse m.0 n ⊎ (free_below m.0 n < nodes_of (rules_in f.0) - nodes_of r))) m.1.rules_are
            (which_nodes m.0 f.0 m.1.passes f.1.passes f.1.nodes n l));
      }
    where
      k : ℕ
      k = c % 4096

      its : Rule
      its = rule_of c behind

      new : effect.changes ≡ more k its ∷ []
      new = ap (λ (z : Effect). z.changes) (taken_does x e)

      few : length effect.answer.cells < s.room
      few = subst (λ (z : Effect). length z.answer.cells < s.room) (sym (taken_does x e)) h

      m : (m : List ℕ) × MemoryAt call.book call.book' s m
      m = memory

      f : (m' : List ℕ) × Changes (more k its) m.0 m' × Along (rest s.rules c behind s.room).changes m' call.book'
      f = first_of (more k its) (rest s.rules c behind s.room).changes m.1.to_come
          (ap (λ (y : List ℕ). (run s.rules y s.room).changes) at.here
          ∙ ap (λ (o : Outcome). o.changes) (goes_on_by s.rules c behind s.room few (goes_on x))
          ∙ ap (λ (cs : List Change). cs ++ (rest s.rules c behind s.room).changes) new)

      held : rules_in f.0 ≡ effect.rules
      held = f.1.rules_are ∙ ap (λ (r : Rules). with_rule r k its) m.1.rules_are ∙ ap (λ (z : Effect). z.rules) (sym (taken_does x e))

-- ---- commands that change nothing

pub idle : (s : Stage) (c : ℕ) (behind : List ℕ) → Idle s c behind → (effect_of s c behind).changes ≡ []
idle s c behind (inl n) = refused_stays s.rules behind (command_of c behind) n
idle s c behind (inr x) = told_only s.rules (c / 4096) (c % 4096) (omega arith) behind x.0

module _ (call : Call) (kept : Kept call) (p : Passing call.book) (all : (s : Stage) (c : ℕ) (behind : List ℕ) → CameTo call s c behind → Idle s c behind) where
  abbrev ComesTo : Stage → Type 0
  ComesTo s = Reaches (rules_in call.book) call.cells (length call.output) s

  none_from : (fuel : ℕ) (s : Stage) → ComesTo s → (cells : List ℕ) → s.cells ≡ cells → length cells ≤ fuel → (run s.rules cells s.room).changes ≡ []
  none_from zero s r [] e h = ap (λ (o : Outcome). o.changes) (run_none s.rules s.room)
  none_from zero s r (c ∷ behind) e h = absurd (omega arith)
  none_from (suc fuel) s r [] e h = ap (λ (o : Outcome). o.changes) (run_none s.rules s.room)
  none_from (suc fuel) s r (c ∷ behind) e h = go (λ t q l. none_from fuel t q t.cells refl l) (dec_lt (length x.answer.cells) s.room)
      (ℕ_discrete (command_refusal (command_of c behind)) 0)
    where
      x : Effect
      x = effect_of s c behind

      stay : x.changes ≡ []
      stay = idle s c behind (all s c behind (record { kept = kept; passes = p; reaches = r; here = e }))

      go : ((t : Stage) → ComesTo t → length t.cells ≤ fuel → (run t.rules t.cells t.room).changes ≡ [])
          → Dec (length x.answer.cells < s.room) → Dec (command_refusal (command_of c behind) ≡ 0) → (run s.rules (c ∷ behind) s.room).changes ≡ []
      go ih (no l) z = ap (λ (o : Outcome). o.changes) (run_10 s.rules c behind s.room (omega arith))
      go ih (yes l) (no z) = ap (λ (o : Outcome). o.changes) (stops_with s.rules c behind s.room l z) ∙ stay
      go ih (yes l) (yes z) =
          ap (λ (o : Outcome). o.changes) (goes_on_by s.rules c behind s.room l z)
          ∙ ap₂ (λ (cs ds : List Change). cs ++ ds) stay (ih (onward s (size_of c behind) x behind) (next r e z l) (omega (arith, length-drop (size_of c behind) behind)))

  all_idle : call.book' ≡ call.book
  all_idle = unchanged (passing kept p).book.along (none_from (length call.cells) _ start call.cells refl (omega arith))

-- A batch of such commands only leaves every word.
pub idle_keeps : (call : Call) → Kept call → ((s : Stage) (c : ℕ) (behind : List ℕ) → CameTo call s c behind → Idle s c behind) → call.book' ≡ call.book
idle_keeps call (ran p r) all = all_idle call (ran p r) p all
idle_keeps call (turned_away f t) all = t.book
