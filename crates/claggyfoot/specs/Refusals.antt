-- Why the refusal table holds: each refusal comes exactly when its condition and the order say so.
use Rattle.std.specs.Prelude.{◌≡◌, refl, ◌⊎◌, ◌↔◌, List, [], ◌∷◌, Bool, true, false, ℕ, zero, suc, ◌-◌, ◌/◌, ◌%◌, ◌≤◌, ◌<◌, leb, ltb, length, take, drop, Option, Some, None, Result, Ok, Err}
use Rattle.std.proofs.Common.{sym, ap, ap₂, ◌∙◌, subst, inl, inr, arith, ltb-true, leb-true, leb-false, lt-ltb, le-leb, length-drop}
use Rattle.std.proofs.Math.Decide.{ℕ_discrete, dec_lt}
use Rattle.std.proofs.lemmas.Bool.{lt-leb}
use Rattle.deciding.specs.Deciding.{pick, true_not_false}
use Rattle.layout.specs.Layout.{rules_limit, nodes_limit}
use Rattle.term.specs.Reading.{read_term}
use Rattle.book.specs.declared.NotAdded.{NotAdded}
use Rattle.book.specs.declared.NotAdded.TheVariants.{HeldAlready, BookFull, NoNodes}
use Rattle.book.specs.Rules.{Rule, plain, Held, nothing, rule, Rules, is_held, with_rule, rule_count, nodes_of, refusal_of_add, judged, removal, refusal_of_remove}
use Rattle.commands.specs.declared.kinds.Act.{Act}
use Rattle.commands.specs.declared.kinds.Act.TheVariants.{Add, Remove, Ask, Show, Room}
use Rattle.commands.specs.declared.kinds.Kind.{Kind}
use Rattle.commands.specs.declared.reader.Command.{Command}
use Rattle.commands.specs.declared.reader.RefusedCommand.{RefusedCommand}
use Rattle.commands.specs.Kinds.{kind_at, act_of, about_term, about_rule, changes_book, with_act, term_is, changes_below_2}
use Rattle.commands.specs.Commands.{command_from, command_of, command_refusal, command_size}
use Rattle.commands.specs.Laws.{right_number}
use Rattle.commands.proofs.Laws.{whole_read, plain_read, act_is, number_is, stop_range, read_of}
use Rattle.batch.specs.Effects.{Effect, change_of, change_at, shown, acts, does}
use Rattle.batch.specs.Run.{Outcome, is_going_on, run}
use Rattle.batch.specs.Laws.{does_act, any_effect, run_none, run_10}
use Rattle.claggyfoot.specs.Stages.{read_on, stop_tells, stops_with, goes_on_by}

-- ---- what the book says: refusals 6, 8 and 9 of an add, 7 of a remove and a show

-- three tests, the first that holds decides
abbrev chosen : (held full over : Bool) → ℕ
chosen held full over = refusal_of_add (pick held (Err HeldAlready) (pick full (Err BookFull) (pick over (Err NoNodes) (Ok tt))))

is_6 : (a b c : Bool) → chosen a b c ≡ 6 → a ≡ true
is_6 true b c e = refl
is_6 false true c e = absurd (omega arith)
is_6 false false true e = absurd (omega arith)
is_6 false false false e = absurd (omega arith)

is_8 : (a b c : Bool) → chosen a b c ≡ 8 → (a ≡ false) × (b ≡ true)
is_8 true b c e = absurd (omega arith)
is_8 false true c e = (refl, refl)
is_8 false false true e = absurd (omega arith)
is_8 false false false e = absurd (omega arith)

is_9 : (a b c : Bool) → chosen a b c ≡ 9 → (a ≡ false) × (b ≡ false) × (c ≡ true)
is_9 true b c e = absurd (omega arith)
is_9 false true c e = absurd (omega arith)
is_9 false false true e = (refl, refl, refl)
is_9 false false false e = absurd (omega arith)

at_6 : (a b c : Bool) → a ≡ true → chosen a b c ≡ 6
at_6 true b c e = refl
at_6 false b c e = absurd (true_not_false e refl)

at_8 : (a b c : Bool) → a ≡ false → b ≡ true → chosen a b c ≡ 8
at_8 false true c e f = refl
at_8 false false c e f = absurd (true_not_false f refl)
at_8 true b c e f = absurd (true_not_false refl e)

at_9 : (a b c : Bool) → a ≡ false → b ≡ false → c ≡ true → chosen a b c ≡ 9
at_9 false false true e f g = refl
at_9 false false false e f g = absurd (true_not_false g refl)
at_9 false true c e f g = absurd (true_not_false refl f)
at_9 true b c e f g = absurd (true_not_false refl e)

abbrev pub IsHeldAlready : Rules → ℕ → Type 0
IsHeldAlready rules k = (r : Rule) × (rules k ≡ rule r)

held_is : (h : Held) → is_held h ≡ true → (r : Rule) × (h ≡ rule r)
held_is (rule r) e = (r, refl)
held_is nothing e = absurd (true_not_false e refl)

free_is : (h : Held) → is_held h ≡ false → h ≡ nothing
free_is nothing e = refl
free_is (rule r) e = absurd (true_not_false refl e)

module _ (rules : Rules) (k : ℕ) (r : Rule) where
  abbrev held : Bool
  held = is_held (rules k)

  abbrev full : Bool
  full = leb rules_limit (rule_count rules)

  abbrev over : Bool
  over = ltb nodes_limit (nodes_of (with_rule rules k r))

  -- number already held
  pub six : refusal_of_add (judged rules k r) ≡ 6 ↔ IsHeldAlready rules k
  six = ((λ e. held_is (rules k) (is_6 held full over e)), (λ h. at_6 held full over (ap is_held h.1)))

  -- 512 rules held
  pub eight : refusal_of_add (judged rules k r) ≡ 8 ↔ ((rules k ≡ nothing) × (rules_limit ≤ rule_count rules))
  eight = (
    (λ e. let x = is_8 held full over e in (free_is (rules k) x.0, leb-true rules_limit (rule_count rules) x.1)),
    (λ h. at_8 held full over (ap is_held h.0) (le-leb rules_limit (rule_count rules) h.1)),
  )

  -- the node count with the rule would pass 4,096
  pub nine : refusal_of_add (judged rules k r) ≡ 9 ↔ ((rules k ≡ nothing) × (rule_count rules < rules_limit) × (nodes_limit < nodes_of (with_rule rules k r)))
  nine = (
    (λ e. let x = is_9 held full over e in
        (free_is (rules k) x.0, leb-false rules_limit (rule_count rules) x.1, ltb-true nodes_limit (nodes_of (with_rule rules k r)) x.2)),
    (λ h. at_9 held full over (ap is_held h.0) (lt-leb rules_limit (rule_count rules) h.1) (lt-ltb nodes_limit (nodes_of (with_rule rules k r)) h.2)),
  )

-- remove, show: number not held
pub seven_removed : (h : Held) → refusal_of_remove (removal h) ≡ 7 ↔ h ≡ nothing
seven_removed nothing = (λ e. refl, λ e. refl)
seven_removed (rule r) = (λ e. absurd (omega arith), λ e. absurd (let z : ◌≡◌ {A = ℕ} 0 1 = cc in omega arith))

pub seven_shown : (h : Held) → (shown h).refusal ≡ 7 ↔ h ≡ nothing
seven_shown nothing = (λ e. refl, λ e. refl)
seven_shown (rule r) = (λ e. absurd (omega arith), λ e. absurd (let z : ◌≡◌ {A = ℕ} 0 1 = cc in omega arith))

-- ---- at a command: refusals 6 to 9

add_number : (a : Result (Unit {0}) NotAdded) (r : ℕ) → refusal_of_add a ≡ r → ¬ (r ≡ 7)
add_number (Ok x) r e z = omega arith
add_number (Err HeldAlready) r e z = omega arith
add_number (Err BookFull) r e z = omega arith
add_number (Err NoNodes) r e z = omega arith

removal_number : (h : Held) → (refusal_of_remove (removal h) ≡ 0) ⊎ (refusal_of_remove (removal h) ≡ 7)
removal_number nothing = inr refl
removal_number (rule r) = inl refl

shown_number : (h : Held) → ((shown h).refusal ≡ 0) ⊎ ((shown h).refusal ≡ 7)
shown_number nothing = inr refl
shown_number (rule r) = inl refl

other_number : {P : Type 0} (x r : ℕ) → x ≡ r → (x ≡ 0) ⊎ (x ≡ 7) → 6 ≤ r → ¬ (r ≡ 7) → P
other_number x r e (inl z) h n = absurd (omega arith)
other_number x r e (inr z) h n = absurd (n (sym e ∙ z))

-- An add whose term was read, with so many cells; a remove or a show.
abbrev pub AddsTerm : Option Kind → List ℕ → (size : ℕ) → Type 0
AddsTerm k behind size = (act_of k ≡ Some Add) × (read_term behind ≡ Ok size)

abbrev pub NamesRule : Option Kind → Type 0
NamesRule k = (act_of k ≡ Some Remove) ⊎ (act_of k ≡ Some Show)

-- the row that has an act
row_of : (k : Option Kind) (a : Act) → act_of k ≡ Some a → (r : Kind) × (k ≡ Some r) × (r.act ≡ a)
row_of None a e = absurd cc
row_of (Some r) a e = (r, refl, cc)

module _ (rules : Rules) (kind number : ℕ) (low : number < 4096) (behind : List ℕ) where
  abbrev row : Option Kind
  row = kind_at kind

  abbrev here : Result Command RefusedCommand
  here = command_from kind number behind

  abbrev effect : Effect
  effect = does rules behind here

  abbrev term : List ℕ
  term = take (command_size here) behind

  abbrev judgement : ℕ
  judgement = refusal_of_add (judged rules number (plain term))

  -- it goes on, and does what the act of its kind does; or it stops, and tells with which number
  goes : command_refusal here ≡ 0 → (a : Act) × (act_of row ≡ Some a) × (effect ≡ acts a rules number term)
  goes z =
      let x = read_on here z in
      let size : x.0.size ≡ command_size here = sym (ap command_size x.1) in (
        x.0.act,
        act_is row number behind x.0 x.1,
        does_act rules behind here x.0 x.1
            ∙ ap₂ (λ (k n : ℕ). acts x.0.act rules k (take n behind)) (number_is row number behind x.0 x.1) size,
      )

  stopped : ¬ (command_refusal here ≡ 0) → (effect.answer.refusal ≡ command_refusal here) × (2 ≤ command_refusal here) × (command_refusal here ≤ 5)
  stopped n = go (stop_range here)
    where
      go : (command_refusal here ≡ 0) ⊎ ((2 ≤ command_refusal here) × (command_refusal here ≤ 5))
          → (effect.answer.refusal ≡ command_refusal here) × (2 ≤ command_refusal here) × (command_refusal here ≤ 5)
      go (inl z) = absurd (n z)
      go (inr x) = (ap (λ (e : Effect). e.answer.refusal) (stop_tells rules behind here n), x.0, x.1)

  -- after any other record than one of 2 to 5 the batch goes on
  pub goes_on_with : (r : ℕ) → ¬ ((2 ≤ r) × (r ≤ 5)) → effect.answer.refusal ≡ r → command_refusal here ≡ 0
  goes_on_with r h e = go (ℕ_discrete (command_refusal here) 0)
    where
      go : Dec (command_refusal here ≡ 0) → command_refusal here ≡ 0
      go (yes z) = z
      go (no n) = absurd (let x = stopped n in let a = x.0 in let b = x.1 in let c = x.2 in h (omega arith, omega arith))

  -- a term that was read is whole
  pub read_whole : (a : Act) → act_of row ≡ Some a → about_term a ≡ true → command_refusal here ≡ 0 → read_term behind ≡ Ok (command_size here)
  read_whole a e f z =
      let x = read_on here z in
      let about : about_term x.0.act ≡ true = ap (with_act about_term) (sym (act_is row number behind x.0 x.1) ∙ e) ∙ f in
      (read_of kind number behind low x.0 x.1).whole about ∙ ap Ok (sym (ap command_size x.1))

  -- so a refusal from 6 on is one of its act
  by_act : (r : ℕ) → 6 ≤ r → effect.answer.refusal ≡ r
      → (command_refusal here ≡ 0) × ((a : Act) × (act_of row ≡ Some a) × ((acts a rules number term).answer.refusal ≡ r))
  by_act r h e =
      let z = goes_on_with r (λ x. absurd (let b = x.1 in omega arith)) e in
      let x = goes z in
      (z, (x.0, x.1, sym (ap (λ (y : Effect). y.answer.refusal) x.2) ∙ e))

  -- an add that was read
  pub is_added : (size : ℕ) → AddsTerm row behind size → here ≡ Ok (record { act = Add; number = number; size = size })
  is_added size x =
      let r = row_of row Add x.0 in
      whole_read row number behind r.0 size r.1
      (term_is kind ∙ ap (with_act about_term) x.0, right_number kind number (ap (with_act about_rule) x.0)) x.1
      ∙ ap (λ (a : Act). Ok (record { act = a; number = number; size = size })) r.2

  -- a remove or a show has no term to be at fault
  is_named : (act : Act) → act_of row ≡ Some act → about_term act ≡ false → about_rule act ≡ true → command_refusal here ≡ 0
  is_named act e f g =
      let r = row_of row act e in
      ap command_refusal
      (plain_read row number behind r.0 r.1 (term_is kind ∙ ap (with_act about_term) e ∙ f) (right_number kind number (ap (with_act about_rule) e ∙ g)))

  pub acting : (act : Act) → act_of row ≡ Some act → command_refusal here ≡ 0 → effect ≡ acts act rules number term
  acting act e z =
      let x = goes z in
      let same : x.0 ≡ act = (let y = sym x.1 ∙ e in cc) in
      x.2 ∙ ap (λ (a : Act). acts a rules number term) same

  -- 6, 8 and 9 are given for an add that was read, as the rules judge it
  pub add_refused : (r : ℕ) → 6 ≤ r → ¬ (r ≡ 7) → effect.answer.refusal ≡ r ↔ (AddsTerm row behind (command_size here) × (judgement ≡ r))
  add_refused r h n = (λ e. let x = by_act r h e in to x.1.0 x.1.1 x.0 x.1.2, λ x. of x.0 x.1)
    where
      to : (a : Act) → act_of row ≡ Some a → command_refusal here ≡ 0 → (acts a rules number term).answer.refusal ≡ r
          → AddsTerm row behind (command_size here) × (judgement ≡ r)
      to Add q z e = ((q, read_whole Add q refl z), e)
      to Remove q z e = other_number (refusal_of_remove (removal (rules number))) r e (removal_number (rules number)) h n
      to (Ask fq fr) q z e = absurd (omega arith)
      to Show q z e = other_number (shown (rules number)).refusal r e (shown_number (rules number)) h n
      to Room q z e = absurd (omega arith)

      of : AddsTerm row behind (command_size here) → judgement ≡ r → effect.answer.refusal ≡ r
      of x j = ap (λ (e : Effect). e.answer.refusal) (acting Add x.0 (ap command_refusal (is_added (command_size here) x))) ∙ j

  -- 7 is given for a remove or a show whose number isn't held
  pub not_held : effect.answer.refusal ≡ 7 ↔ (NamesRule row × (rules number ≡ nothing))
  not_held = (λ e. let x = (by_act 7 (omega arith) e).1 in to x.0 x.1 x.2, λ x. of x.0 x.1)
    where
      to : (a : Act) → act_of row ≡ Some a → (acts a rules number term).answer.refusal ≡ 7 → NamesRule row × (rules number ≡ nothing)
      to Add q e = absurd (add_number (judged rules number (plain term)) 7 e refl)
      to Remove q e = (inl q, (seven_removed (rules number)).0 e)
      to (Ask fq fr) q e = absurd (omega arith)
      to Show q e = (inr q, (seven_shown (rules number)).0 e)
      to Room q e = absurd (omega arith)

      of : NamesRule row → rules number ≡ nothing → effect.answer.refusal ≡ 7
      of (inl q) e = ap (λ (x : Effect). x.answer.refusal) (acting Remove q (is_named Remove q refl refl)) ∙ (seven_removed (rules number)).1 e
      of (inr q) e = ap (λ (x : Effect). x.answer.refusal) (acting Show q (is_named Show q refl refl)) ∙ (seven_shown (rules number)).1 e

  -- only an add or a remove changes anything
  pub told_only : 2 ≤ kind → effect.changes ≡ []
  told_only h = by_stop (ℕ_discrete (command_refusal here) 0)
    where
      neither : {a : Act} → act_of row ≡ Some a → changes_book a ≡ true → ⊥
      neither q e = let l = changes_below_2 kind (ap (with_act changes_book) q ∙ e) in omega arith

      go : (a : Act) → act_of row ≡ Some a → (acts a rules number term).changes ≡ []
      go Add q = absurd (neither q refl)
      go Remove q = absurd (neither q refl)
      go (Ask fq fr) q = refl
      go Show q = refl
      go Room q = refl

      by_stop : Dec (command_refusal here ≡ 0) → effect.changes ≡ []
      by_stop (yes z) = let x = goes z in ap (λ (e : Effect). e.changes) x.2 ∙ go x.0 x.1
      by_stop (no n) = ap (λ (e : Effect). e.changes) (stop_tells rules behind here n)

-- ---- a refused command changes nothing, and only an add or a remove changes anything

add_changes : (a : Result (Unit {0}) NotAdded) (k : ℕ) (r : Rule) → ¬ (refusal_of_add a ≡ 0) → change_of a k r ≡ []
add_changes (Ok x) k r n = absurd (n refl)
add_changes (Err why) k r n = refl

remove_changes : (k : ℕ) (h : Held) → ¬ (refusal_of_remove (removal h) ≡ 0) → change_at k h ≡ []
remove_changes k nothing n = refl
remove_changes k (rule r) n = absurd (n refl)

pub refused_stays : (rules : Rules) (behind : List ℕ) (x : Result Command RefusedCommand) → ¬ ((does rules behind x).answer.refusal ≡ 0) → (does rules behind x).changes ≡ []
refused_stays rules behind x = any_effect rules behind x (λ e. ¬ (e.answer.refusal ≡ 0) → e.changes ≡ [])
    (λ c. go c.act c.number (take c.size behind)) (λ why n. refl)
  where
    go : (a : Act) (k : ℕ) (t : List ℕ) → ¬ ((acts a rules k t).answer.refusal ≡ 0) → (acts a rules k t).changes ≡ []
    go Add k t n = add_changes (judged rules k (plain t)) k (plain t) n
    go Remove k t n = remove_changes k (rules k) n
    go (Ask fq fr) k t n = refl
    go Show k t n = refl
    go Room k t n = refl

-- ---- where a batch ends

-- The stop numbers of a batch on a book that passes.
abbrev pub StopNumber : ℕ → Type 0
StopNumber s = (s ≡ 0) ⊎ (((2 ≤ s) × (s ≤ 5)) ⊎ (s ≡ 10))

-- How a batch ends: with one of those numbers, 0 exactly when all cells are used.
pub record Ends (o : Outcome) (n : ℕ) : Type 0 where
  pub number : StopNumber o.stop
  pub all : o.stop ≡ 0 → o.used ≡ n
  pub not_all : ¬ (o.stop ≡ 0) → o.used < n

none_left : (rules : Rules) (room : ℕ) → Ends (run rules [] room) 0
none_left rules room = subst (λ (o : Outcome). Ends o 0) (sym (run_none rules room)) (record { number = inl refl; all = λ e. refl; not_all = λ n. absurd (n refl) })

-- by the number of cells
ends_so : (fuel : ℕ) (rules : Rules) (cells : List ℕ) (room : ℕ) → length cells ≤ fuel → Ends (run rules cells room) (length cells)
ends_so zero rules [] room h = none_left rules room
ends_so zero rules (c ∷ behind) room h = absurd (omega arith)
ends_so (suc fuel) rules [] room h = none_left rules room
ends_so (suc fuel) rules (c ∷ behind) room h = go (λ r cells k l. ends_so fuel r cells k l) (dec_lt (length e.answer.cells) room)
    (stop_range (command_of c behind))
  where
    x : Result Command RefusedCommand
    x = command_of c behind

    e : Effect
    e = does rules behind x

    size : command_size x ≤ length behind
    size = within x refl
      where
        within : (y : Result Command RefusedCommand) → x ≡ y → command_size y ≤ length behind
        within (Ok first) q = (read_of (c / 4096) (c % 4096) behind (omega arith) first q).inside
        within (Err why) q = omega arith

    left : length (drop (command_size x) behind) ≡ length behind - command_size x
    left = length-drop (command_size x) behind

    more : Ends (run e.rules (drop (command_size x) behind) (room - suc (length e.answer.cells))) (length (drop (command_size x) behind))
        → Ends (is_going_on (suc (command_size x)) e (run e.rules (drop (command_size x) behind) (room - suc (length e.answer.cells)))) (suc (length behind))
    more r = record { number = r.number; all = λ z. let u = r.all z in omega (arith, left, size); not_all = λ z. let u = r.not_all z in omega (arith, left, size) }

    go : ((r : Rules) (cells : List ℕ) (k : ℕ) → length cells ≤ fuel → Ends (run r cells k) (length cells)) → Dec (length e.answer.cells < room)
        → (command_refusal x ≡ 0) ⊎ ((2 ≤ command_refusal x) × (command_refusal x ≤ 5)) → Ends (run rules (c ∷ behind) room) (suc (length behind))
    go ih (no n) s = subst (λ (o : Outcome). Ends o (suc (length behind))) (sym (run_10 rules c behind room (omega arith)))
        (record { number = inr (inr refl); all = λ z. absurd (omega arith); not_all = λ z. omega arith })
    go ih (yes l) (inr s) = subst (λ (o : Outcome). Ends o (suc (length behind)))
        (sym (stops_with rules c behind room l (λ z. absurd (let a = s.0 in omega arith))))
        (record { number = inr (inl s); all = λ z. absurd (let a = s.0 in omega arith); not_all = λ z. omega arith })
    go ih (yes l) (inl s) = subst (λ (o : Outcome). Ends o (suc (length behind))) (sym (goes_on_by rules c behind room l s))
        (more (ih e.rules (drop (command_size x) behind) (room - suc (length e.answer.cells)) (omega (arith, left))))

pub batch_ends : (rules : Rules) (cells : List ℕ) (room : ℕ) → Ends (run rules cells room) (length cells)
batch_ends rules cells room = ends_so (length cells) rules cells room (omega arith)
