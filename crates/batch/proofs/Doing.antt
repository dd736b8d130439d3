-- What the book promises of each call is the effect of its command.
use mathlib.Core.Path.{◌≡◌, refl, sym, ap, ap₂, ◌∙◌, subst}
use mathlib.Core.List.{List, [], ◌++◌}
use mathlib.Core.Bool.{Bool, true}
use Prim.Native.Nat.{ℕ, ◌-◌, ◌<◌}
use native.Mathlib.Omega.{arith}
use lib.Dec.{leb, ltb}
use lib.ListN.{length, take, drop, replicate}
use lib.Seq.{take-append_seam}
use Rattle.deciding.specs.Deciding.{pick}
use Rattle.layout.specs.Layout.{rules_limit, nodes_limit}
use Rattle.term.specs.Questions.{Mode}
use Rattle.term.specs.Machine.{question_fills, rule_fills}
use Rattle.std.specs.Prelude.{Option, Some, None, Result, Ok, Err, IfOk}
use Rattle.book.specs.declared.NotAdded.{NotAdded}
use Rattle.book.specs.declared.NotAdded.TheVariants.{HeldAlready, BookFull, NoNodes}
use Rattle.book.specs.declared.NotHeld.{NotHeld}
use Rattle.book.specs.Rules.{Rule, Held, nothing, rule, Rules, is_held, with_rule, without_rule, rule_count, nodes_of, refusal_of_add, judged, after, removal, refusal_of_remove}
use Rattle.book.specs.Memory.{Passing, rules_in}
use Rattle.book.specs.declared.Shown.{Shown}
use Rattle.book.specs.Promises.{IsTerm, shown as found}
use Rattle.change.specs.Promises.{Adds, Removes}
use Rattle.book.specs.Facts.{limited}
use Rattle.questions.specs.Asking.{answers}
use Rattle.questions.specs.Demand2.{never_more}
use Rattle.questions.specs.Promises.{Asked, Lists}
use Rattle.questions.specs.Listing.{marked_answers, marked_many}
use Rattle.commands.specs.Records.{Record, bare, good}
use Rattle.commands.specs.declared.reader.Command.{Command}
use Rattle.commands.specs.declared.reader.RefusedCommand.{RefusedCommand}
use Rattle.commands.specs.declared.kinds.Act.{Act}
use Rattle.commands.specs.Commands.{refusal_number, Read}
use Rattle.commands.specs.Laws.{whole_behind}
use Rattle.batch.specs.Laws.{does_stop, does_act}
use Rattle.commands.specs.Kinds.{about_term, mode_of, fills_question, fills_rule}
use Rattle.batch.specs.Effects.{Effect, tells, change_of, adds, change_at, removes, shown, acts, does}
use Rattle.commands.specs.Writing.{Writes}
use Rattle.batch.specs.Promises.{Along, none, then, Becomes, Does, Marked}

-- nothing has changed
pub stays : (ws : List ℕ) → Passing ws → Becomes ws ws (rules_in ws) []
stays ws p = record { passes = p; rules_are = refl; along = none }

still : (ws ws' : List ℕ) → ws' ≡ ws → Along [] ws ws'
still ws ws' e = subst (λ (z : List ℕ). Along [] ws z) (sym e) none

pub told : (ws out out' : List ℕ) (n : Option ℕ) (r : Record) → Passing ws → Writes r out out' n → Does (tells r (rules_in ws)) ws ws out out' n
told ws out out' n r p w = record { writes = w; fits = λ _. stays ws p; short = λ _. refl }

-- ---- adding

-- a rule is taken only under a number that is free
taken_free : (rules : Rules) (k : ℕ) (r : Rule) → judged rules k r ≡ Ok tt → rules k ≡ nothing
taken_free rules k r = go (rules k)
  where
    go : (h : Held)
        → pick {X = Result (Unit {0}) NotAdded} (is_held h) (Err HeldAlready)
        (pick (leb rules_limit (rule_count rules)) (Err BookFull) (pick (ltb nodes_limit (nodes_of (with_rule rules k r))) (Err NoNodes) (Ok (tt {0})))) ≡ Ok (tt {0})
        → h ≡ nothing
    go nothing e = refl
    go (rule s) e = absurd (let z : ◌≡◌ {A = ℕ} 0 1 = cc in omega arith)

module _ (ws ws' : List ℕ) (k : ℕ) (r : Rule) where
  added : (a : Result (Unit {0}) NotAdded) → Adds ws ws' k r a → Becomes ws ws' (after a (rules_in ws) k r) (change_of a k r)
  added (Ok made) x = record {
    passes = x.passes;
    rules_are = x.rules;
    along = then (record { was = taken_free (rules_in ws) k r (sym x.answer); passes = x.passes; rules_are = x.rules; nodes = x.nodes }) none;
  }
  added (Err why) x = record {
    passes = x.passes;
    rules_are = x.rules;
    along = still ws ws' (x.same (λ e. let z : ◌≡◌ {A = ℕ} 0 1 = cc in omega arith));
  }

  abbrev effect : Result (Unit {0}) NotAdded → Effect
  effect a = record { answer = bare (refusal_of_add a); rules = after a (rules_in ws) k r; changes = change_of a k r }

  pub add_done : (a : Result (Unit {0}) NotAdded) (refusal : ℕ) (out out' : List ℕ) (n : Option ℕ) → 0 < length out → Adds ws ws' k r a → refusal ≡ refusal_of_add a
      → Writes (bare refusal) out out' n → Does (adds (rules_in ws) k r) ws ws' out out' n
  add_done a refusal out out' n h x e w =
      subst (λ (b : Result (Unit {0}) NotAdded). Does (effect b) ws ws' out out' n) x.answer
      (record { writes = subst (λ (j : ℕ). Writes (bare j) out out' n) e w; fits = λ _. added a x; short = λ l. absurd (omega arith) })

-- ---- removing

module _ (ws ws' : List ℕ) (k : ℕ) (a : Result (Unit {0}) NotHeld) (x : Removes ws ws' k a) where
  removed : (h : Held) → rules_in ws k ≡ h → Becomes ws ws' (without_rule (rules_in ws) k) (change_at k h)
  removed (rule r) e = record {
    passes = x.passes;
    rules_are = x.rules;
    along = then (record { was = e; passes = x.passes; rules_are = x.rules; nodes = x.nodes }) none;
  }
  removed nothing e = record { passes = x.passes; rules_are = x.rules; along = still ws ws' (x.same (x.answer ∙ ap removal e)) }

  pub remove_done : (refusal : ℕ) (out out' : List ℕ) (n : Option ℕ) → 0 < length out → refusal ≡ refusal_of_remove a → Writes (bare refusal) out out' n
      → Does (removes (rules_in ws) k) ws ws' out out' n
  remove_done refusal out out' n h e w = record {
    writes = subst (λ (j : ℕ). Writes (bare j) out out' n) (e ∙ ap refusal_of_remove x.answer) w;
    fits = λ _. removed (rules_in ws k) refl;
    short = λ l. absurd (omega arith);
  }

-- ---- asking

module _ (ws q marks : List ℕ) (fillsQ fills_r : Bool) (asked : Asked fillsQ fills_r ws q marks) where
  abbrev mode : Mode
  mode = mode_of fillsQ fills_r

  asked_so : Asked (question_fills mode) (rule_fills mode) ws q marks
  asked_so =
      subst (λ (x : Bool). Asked (question_fills mode) x ws q marks) (sym (fills_rule fillsQ fills_r))
      (subst (λ (x : Bool). Asked x fills_r ws q marks) (sym (fills_question fillsQ fills_r)) asked)

  -- whether they have room is as the definition says, and they are as the definition lists them
  pub marked : Passing ws → Marked (rules_in ws) mode q marks
  marked p = record {
    in_order = marked_answers mode ws q marks asked_so;
    many = marked_many mode ws q marks asked_so;
    few = omega (arith, marked_many mode ws q marks asked_so, never_more mode q (rules_in ws), (limited ws p).few);
  }

-- a list of the marks is the definition's
pub listed : {rules : Rules} {mode : Mode} {q marks out out' : List ℕ} {n : ℕ} → Marked rules mode q marks → Lists rules marks out out' n
    → (n ≡ length (answers mode q rules)) × (out' ≡ answers mode q rules ++ drop (length (answers mode q rules)) out)
listed {out = out} m l =
    let n = l.count ∙ ap length m.in_order in
    (n, l.is ∙ ap₂ (λ (z : List ℕ) (k : ℕ). z ++ drop k out) m.in_order n)

-- ---- showing

-- what a show finds is the definition's
pub show_none : (ws : List ℕ) (k : ℕ) → None ≡ found (rules_in ws k) → bare 7 ≡ shown (rules_in ws k)
show_none ws k = go (rules_in ws k)
  where
    go : (h : Held) → None ≡ found h → bare 7 ≡ shown h
    go nothing e = refl
    go (rule r) e = absurd (let z : ◌≡◌ {A = ℕ} 0 1 = cc in omega arith)

pub record IsShown (ws : List ℕ) (k : ℕ) (it : Shown) : Type 0 where
  pub record_is : good (take it.size it.cells) ≡ shown (rules_in ws k)
  pub sized : it.size ≡ length (take it.size it.cells)

pub show_some : (ws : List ℕ) (k : ℕ) (it : Shown) → Some it ≡ found (rules_in ws k) → IsShown ws k it
show_some ws k it = go (rules_in ws k) refl
  where
    go : (h : Held) → rules_in ws k ≡ h → Some it ≡ found h → IsShown ws k it
    go nothing q e = absurd (let z : ◌≡◌ {A = ℕ} 0 1 = cc in omega arith)
    go (rule r) q e =
        let size : it.size ≡ length r.term = cc in
        let cells : it.cells ≡ r.term ++ replicate (32 - length r.term) 0 = cc in
        let same = ap₂ (λ (n : ℕ) (l : List ℕ). take n l) size cells ∙ take-append_seam r.term (replicate (32 - length r.term) 0) in
        record { record_is = ap good same ∙ sym (ap shown q); sized = size ∙ sym (ap length same) }

-- ---- a command is done as it was read

module _ (ws ws' out out' behind : List ℕ) (n : Option ℕ) (read : Result Command RefusedCommand) where
  pub acted : (c : Command) (act : Act) → read ≡ Ok c → c.act ≡ act → Does (acts act (rules_in ws) c.number (take c.size behind)) ws ws' out out' n
      → Does (does (rules_in ws) behind read) ws ws' out out' n
  acted c act e q d = subst (λ (x : Effect). Does x ws ws' out out' n)
      (sym (does_act (rules_in ws) behind read c e ∙ ap (λ (a : Act). acts a (rules_in ws) c.number (take c.size behind)) q)) d

  pub stopped : (refused : RefusedCommand) (number : ℕ) → read ≡ Err refused → number ≡ refusal_number refused.why → Passing ws → Writes (bare number) out out' n
      → Does (does (rules_in ws) behind read) ws ws out out' n
  stopped refused number e q p w = subst (λ (x : Effect). Does x ws ws out out' n)
      (sym (does_stop (rules_in ws) behind read refused e ∙ ap (λ (k : ℕ). tells (bare k) (rules_in ws)) (sym q))) (told ws out out' n (bare number) p w)

-- the term behind a command is whole
pub whole : (behind : List ℕ) (read : Result Command RefusedCommand) (c : Command) (act : Act) → IfOk read (λ x. Read behind x) → read ≡ Ok c → c.act ≡ act → about_term act ≡ true
    → IsTerm (take c.size behind)
whole behind read c act r e q a =
    let known : Read behind c = subst (λ (x : Result Command RefusedCommand). IfOk x (λ y. Read behind y)) e r in
    whole_behind behind c.size (known.whole (ap about_term q ∙ a))
