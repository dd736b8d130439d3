-- What is promised to those who link this library: the three demands, and one outcome for each call. It can be read from top to bottom beside the
-- table of refusals.
--
-- Each of the seven exported functions is proved, for any memory and any bytes, to end, to do nothing undefined and to keep its promise; none of
-- them asks anything of its caller (crates/claggyfoot/src/lib.rt). The promise of a batch is `Runs`: memory that does not pass is turned away;
-- else what comes of it is `run`, a function of the set of rules, the cells and the room.
--
-- A theorem on a refusal is `Exactly is condition follows`: the refusal is given exactly when the condition holds, and then all that follows holds:
-- the numbers answered, every output cell, byte and word. `CameTo call s c behind` says of which command: the call comes to the stage s, where the
-- command cell is c, with the cells behind it (specs/Stages, specs/Calls).
use Rattle.std.specs.Prelude.{◌≡◌, refl, ◌⊎◌, ◌↔◌, ℕ, ◌+◌, ◌*◌, ◌/◌, ◌%◌, ◌≤◌, ◌<◌, length, get_or, take, drop, Option, Some, Ok}
use Rattle.std.proofs.Common.{sym, ap, ap₂, ◌∙◌, subst, inl, inr, arith, take_at}
use mathlib.Core.List.{List, [], ◌++◌, Memᴰ}
use Rattle.std.proofs.Math.Decide.{ℕ_discrete}
use Rattle.layout.specs.Layout.{book_words, rules_limit, nodes_limit}
use Rattle.term.specs.Questions.{Mode, instances, generalisations}
use Rattle.term.specs.declared.reading.Fault.TheVariants.{TooLong, CutShort, FieldSet, AboveFifteen, AboveCount}
use Rattle.names.specs.Name.{IsName}
use Rattle.names.specs.Table.{Holds, Missing, put, Passes as PassesTable}
use Rattle.book.specs.Rules.{Rule, nothing, rule, Rules, with_rule, rule_count, nodes_of, judged}
use Rattle.book.specs.Memory.{Passing, rules_in}
use Rattle.book.specs.Promises.{IsTerm, Empties}
use Rattle.book.specs.Facts.{empty_passes, empties_once}
use Rattle.questions.specs.Asking.{Ordered, answers, Listed}
use Rattle.questions.specs.Demand2.{WholeRules, lists, ordered, never_more, other_way_listed}
use Rattle.commands.specs.Records.{good, written}
use Rattle.commands.specs.declared.kinds.Kind.{Kind}
use Rattle.commands.specs.Kinds.{ask, kind_at, act_of, mode_is}
use Rattle.commands.specs.Words.{InWords, in_words}
use Rattle.commands.specs.Commands.{command_of, command_refusal}
use Rattle.commands.specs.Laws.{Wrong, TakesTerm, Faulty, fault_3, fault_4, fault_5, whole_behind}
use Rattle.commands.proofs.Laws.{two}
use Rattle.batch.specs.Effects.{Effect, tells}
use Rattle.batch.specs.Run.{Outcome, run}
use Rattle.batch.specs.Promises.{Came, Ran, TurnedAway, Runs, ran, turned_away, passing}
use Rattle.claggyfoot.specs.Stages.{Stage, onward, does_rules, MemoryAt}
use Rattle.claggyfoot.specs.Calls.{Exactly, Call, Kept, CameTo, effect_of, size_of, rule_of, Idle, StopsHere, Answered, Ended, GoneOn, RefusedOn, StoppedBy, NodesTaken}
use Rattle.claggyfoot.specs.Refusals.{AddsTerm, NamesRule, IsHeldAlready, StopNumber, Ends, six, eight, nine, not_held, goes_on_with, read_whole, acting, batch_ends}
use Rattle.claggyfoot.specs.AtCommand.{memory, limits, answered, stops_exactly, refused_exactly, ten, gone_on, fault_exactly, add_exactly, nodes_taken, idle, idle_stays, idle_keeps}
use Rattle.claggyfoot.specs.Naming.{Gave, Told, enter_1, enter_11, enter_12, enter_held, enter_new, name_of_1, name_of_13, name_of_held}
use Rattle.claggyfoot.specs.Numbers.{EntersNumbers, PartNumbers, ChecksNumber, passing as passing-number, failing}
use Rattle.term.specs.Reading.{read_term}
use Rattle.text.specs.declared.TextRead.{TextRead}
use Rattle.text.specs.Promises.{told, table_of, Reads}
use Rattle.typed.specs.Refusals.{TokenRefused, AllTaken, tokens_of, fault_of, stop_of, names_with, whole}
use Rattle.claggyfoot.specs.Typing.{Refused, refused_table, refused_token, refused_fault, refused_room, text_read, text_term}
pub use Rattle.text.specs.Promises.{reads_once}
pub use Rattle.claggyfoot.specs.Numbers.{enters_numbers_once, part_numbers_once, checks_number_once}

-- ==== Demand 1: each refusal in the list comes exactly when its condition and the order call for it

-- 1: memory has a wrong length or does not pass. No record; used and written are 0; all memory unchanged.
pub refusal_1 : (call : Call) → Kept call
    → Exactly (call.stop ≡ 1) (¬ (Passing call.book)) (TurnedAway call.book call.book' call.output call.output' call.stop call.used call.written_cells)
refusal_1 call (ran p r) = (
  (
    λ e. absurd
        (never (batch_ends (rules_in call.book) call.cells (length call.output)).number (sym r.stop_is ∙ e)),
    λ f. absurd (f p),
  ),
  λ f. absurd (f p),
)
  where
    never : {s : ℕ} → StopNumber s → s ≡ 1 → ⊥
    never (inl e) f = omega arith
    never (inr (inl x)) f = let a = x.0 in omega arith
    never (inr (inr e)) f = omega arith
refusal_1 call (turned_away f t) = ((λ e. f, λ _. t.stop_is), λ _. t)

-- .. making an empty book: 1 on a wrong length, with the memory unchanged; else 0
pub refusal_1_empty : {ws ws' : List ℕ} {r : ℕ} → Empties ws ws' r → Exactly (r ≡ 1) (¬ (length ws ≡ book_words)) (ws' ≡ ws)
refusal_1_empty {ws} {ws'} {r} x = (((λ e f. absurd (let z = (x.made f).0 in omega arith)), λ f. (x.refused f).0), λ f. (x.refused f).1)

-- .. the check alone, which writes nothing
pub refusal_1_passes : {ws : List ℕ} {r : ℕ} → ChecksNumber ws r → r ≡ 1 ↔ ¬ (Passing ws)
refusal_1_passes (passing-number p e) = ((λ f. absurd (omega arith)), λ f. absurd (f p))
refusal_1_passes (failing f e) = ((λ _. f), λ _. e)

-- .. entering a name, and the name of a number: the table. Refused, the number is 0 (start and length are 0), and every byte stays.
pub refusal_1_enter : {table name table' : List ℕ} {refusal number : ℕ} (call : EntersNumbers table name refusal number table')
    → Exactly (refusal ≡ 1) (¬ (PassesTable table)) (Gave call 1 0 table)
refusal_1_enter = enter_1

pub refusal_1_name_of : {table : List ℕ} {number refusal start size : ℕ} (call : PartNumbers table number refusal start size)
    → Exactly (refusal ≡ 1) (¬ (PassesTable table)) (Told call 1 0 0)
refusal_1_name_of = name_of_1

-- The kinds are rows of one table (crates/commands/specs/Kinds). For which kinds a row says what, in the words of the table of commands:
pub kinds_in_words : (k : ℕ) → InWords k
kinds_in_words = in_words

-- Each command that a batch on a book that passes comes to.
module _ {call : Call} {s : Stage} {c : ℕ} {behind : List ℕ} (at : CameTo call s c behind) where
  abbrev kind : ℕ
  kind = c / 4096

  abbrev row : Option Kind
  row = kind_at kind

  abbrev number : ℕ
  number = c % 4096

  -- how many cells behind its command cell are its own, and with an add its rule
  abbrev size : ℕ
  size = size_of c behind

  abbrev new_rule : Rule
  new_rule = rule_of c behind

  -- 2: an unknown kind, or number not 0 where it must be. Record 2000, stop.
  pub refusal_2 : Exactly (StopsHere call s 2) ((0 < s.room) × Wrong row number) (StoppedBy call s 2)
  refusal_2 = stops_exactly at 2 (λ e. absurd (omega arith)) (λ e. absurd (omega arith)) (two row number behind)

  -- 3: the cells end while a subterm is wanted. Record 3000, stop.
  pub refusal_3 : Exactly (StopsHere call s 3) ((0 < s.room) × (TakesTerm row number × Faulty CutShort behind)) (StoppedBy call s 3)
  refusal_3 = fault_exactly at 3 (omega arith) (λ e. absurd (omega arith)) (fault_3 behind)

  -- 4: a variable cell with a bit of its 3-bit field set, a number above 15, or a number above the count of variables so far. Record 4000, stop.
  pub refusal_4 : Exactly (StopsHere call s 4) ((0 < s.room) × (TakesTerm row number × (Faulty FieldSet behind ⊎ (Faulty AboveFifteen behind ⊎ Faulty AboveCount behind)))) (StoppedBy call s 4)
  refusal_4 = fault_exactly at 4 (omega arith) (λ e. absurd (omega arith)) (fault_4 behind)

  -- 5: 32 cells read, a subterm still wanted. Record 5000, stop.
  pub refusal_5 : Exactly (StopsHere call s 5) ((0 < s.room) × (TakesTerm row number × Faulty TooLong behind)) (StoppedBy call s 5)
  refusal_5 = fault_exactly at 5 (omega arith) (λ e. absurd (omega arith)) (fault_5 behind)

  -- 6: add, number already held. Record 6000, go on.
  pub refusal_6 : Exactly (Answered call s 6) ((0 < s.room) × (AddsTerm row behind size × IsHeldAlready s.rules number)) (RefusedOn call s 6 c behind)
  refusal_6 = add_exactly at 6 (omega arith) (λ e. absurd (omega arith)) (six s.rules number new_rule)

  -- 7: remove, show: number not held. Record 7000, go on.
  pub refusal_7 : Exactly (Answered call s 7) ((0 < s.room) × (NamesRule row × (s.rules number ≡ nothing))) (RefusedOn call s 7 c behind)
  refusal_7 = refused_exactly at 7 (λ e. absurd (omega arith))
      (goes_on_with s.rules kind number (omega arith) behind 7 (λ x. let a = x.1 in omega arith)) (not_held s.rules kind number (omega arith) behind)

  -- 8: add, 512 rules held (and not 6). Record 8000, go on.
  pub refusal_8 : Exactly (Answered call s 8)
      ((0 < s.room) × (AddsTerm row behind size × ((s.rules number ≡ nothing) × (rules_limit ≤ rule_count s.rules))))
      (RefusedOn call s 8 c behind)
  refusal_8 = add_exactly at 8 (omega arith) (λ e. absurd (omega arith)) (eight s.rules number new_rule)

  -- 9: add, node count with the rule would pass 4,096 (and neither 6 nor 8). Record 9000, go on.
  pub refusal_9 : Exactly (Answered call s 9)
      ((0 < s.room) × (AddsTerm row behind size
      × ((s.rules number ≡ nothing) × (rule_count s.rules < rules_limit) × (nodes_limit < nodes_of (with_rule s.rules number new_rule)))))
      (RefusedOn call s 9 c behind)
  refusal_9 = add_exactly at 9 (omega arith) (λ e. absurd (omega arith)) (nine s.rules number new_rule)

  -- 10: the record, good or refused, doesn't fit in the output left. No record, no effect, stop.
  pub refusal_10 : Exactly (StopsHere call s 10) (s.room ≤ length (effect_of s c behind).answer.cells) (Ended call s 10 s.records)
  refusal_10 = ten at

  -- A command that is not refused: its record is the one that `does` says, the rules after it too, and the batch goes on.
  pub not_refused : Exactly (Answered call s 0)
      ((length (effect_of s c behind).answer.cells < s.room) × ((effect_of s c behind).answer.refusal ≡ 0))
      (GoneOn call s (effect_of s c behind).answer (onward s size (effect_of s c behind) behind))
  not_refused = (answered at 0, λ x. gone_on at x.0 (goes_on_with s.rules kind number (omega arith) behind 0 (λ y. let a = y.0 in omega arith) x.1))

  -- At each command there is a memory: it passes, holds the rules of the stage, and lies on the way from the book before the call to the book after it.
  pub memory_there : (m : List ℕ) × MemoryAt call.book call.book' s m
  memory_there = memory at

  -- A refused command never changes the book, nor does one of kind 2 to 7: the same rules ..
  pub refused_never_changes : Idle s c behind → (effect_of s c behind).rules ≡ s.rules
  refused_never_changes i = does_rules s.rules behind (command_of c behind) (idle s c behind i)

  -- .. and where the batch goes on the memory before it is the memory after it, word for word. (Where it stops there, see `memory_is` of `Ended`.)
  pub refused_same_words : Idle s c behind → length (effect_of s c behind).answer.cells < s.room → command_refusal (command_of c behind) ≡ 0
      → (m : List ℕ) → MemoryAt call.book call.book' s m → MemoryAt call.book call.book' (onward s size (effect_of s c behind) behind) m
  refused_same_words i = idle_stays at (idle s c behind i)

  -- An add that takes effect: which nodes come into use.
  pub new_nodes : 0 < s.room → AddsTerm row behind size → judged s.rules number new_rule ≡ Ok tt → NodesTaken call s (onward s size (effect_of s c behind) behind)
  new_nodes = nodes_taken at

-- 11: no name: empty, over 31 bytes, a byte outside 32 to 126, or first or last byte a space. Number 0, every byte of the table as it was.
pub refusal_11 : {table name table' : List ℕ} {refusal number : ℕ} (call : EntersNumbers table name refusal number table')
    → Exactly (refusal ≡ 11) (PassesTable table × ¬ (IsName name)) (Gave call 11 0 table)
refusal_11 = enter_11

-- 12: name not held, no free slot. Number 0, every byte of the table as it was.
pub refusal_12 : {table name table' : List ℕ} {refusal number : ℕ} (call : EntersNumbers table name refusal number table')
    → Exactly (refusal ≡ 12) ((names : List (List ℕ)) × Holds table names 0 × IsName name × Missing names name) (Gave call 12 0 table)
refusal_12 = enter_12

-- Not refused: a held name is found, in a full table too, and every byte stays; a new one is written over the first free slot, and every other byte stays.
pub name_held : {table name table' : List ℕ} {refusal number : ℕ} (call : EntersNumbers table name refusal number table') (names : List (List ℕ)) (free k : ℕ)
    → Holds table names free → k < length names → get_or names k [] ≡ name → Gave call 0 k table
name_held = enter_held

pub name_new : {table name table' : List ℕ} {refusal number : ℕ} (call : EntersNumbers table name refusal number table') (names : List (List ℕ)) (free : ℕ)
    → Holds table names free → IsName name → Missing names name → 0 < free → Gave call 0 (length names) (put table (length names) name)
name_new = enter_new

-- 13: name number not below the names held. Start 0 and length 0; the call only reads the table, as its type says.
pub refusal_13 : {table : List ℕ} {number refusal start size : ℕ} (call : PartNumbers table number refusal start size)
    → Exactly (refusal ≡ 13) ((names : List (List ℕ)) × (free : ℕ) × Holds table names free × (length names ≤ number)) (Told call 13 0 0)
refusal_13 = name_of_13

-- Not refused: where the name stands.
pub name_stands : {table : List ℕ} {number refusal start size : ℕ} (call : PartNumbers table number refusal start size) (names : List (List ℕ)) (free : ℕ)
    → Holds table names free → number < length names → Told call 0 (32 * number + 1) (length (get_or names number []))
name_stands = name_of_held

-- Typed terms. A text says tokens, and ends with a fault or none, whatever the table is (crates/text/specs/Term); then the tokens get their numbers
-- (Naming). Refused, the answer has 0 in all else, with 20 but the place, and every byte of the table is as it was.

-- 1: the table doesn't pass, before all others.
pub text_1 : {table text table' : List ℕ} {r : TextRead} (call : Reads table text r table') → Exactly (r.refusal ≡ 1) (¬ (PassesTable table)) (Refused call 1 0)
text_1 = refused_table

module _ {table text table' : List ℕ} {r : TextRead} (call : Reads table text r table') (names : List (List ℕ)) (free : ℕ) (holds : Holds table names free) where
  -- 20: no term can go on at a byte, or at the end: that place. No token before it is refused.
  pub text_20 : Exactly (r.refusal ≡ 20) (AllTaken names text × (fault_of text ≡ 20)) (Refused call 20 (stop_of text))
  text_20 = refused_fault call names free holds 20 (inl refl)

  -- 21: an eighth argument.
  pub text_21 : Exactly (r.refusal ≡ 21) (AllTaken names text × (fault_of text ≡ 21)) (Refused call 21 0)
  text_21 = refused_fault call names free holds 21 (inr (inl refl))

  -- 5: a thirty-third cell.
  pub text_5 : Exactly (r.refusal ≡ 5) (AllTaken names text × (fault_of text ≡ 5)) (Refused call 5 0)
  text_5 = refused_fault call names free holds 5 (inr (inr refl))

  -- 11: the first token that is refused is no name.
  pub text_11 : Exactly (r.refusal ≡ 11) (TokenRefused names [] (tokens_of text) 11) (Refused call 11 0)
  text_11 = refused_token call names free holds 11 (inl refl)

  -- 4: the first token that is refused is a seventeenth variable.
  pub text_4 : Exactly (r.refusal ≡ 4) (TokenRefused names [] (tokens_of text) 4) (Refused call 4 0)
  text_4 = refused_token call names free holds 4 (inr refl)

  -- 12: nothing else is refused, and the new names outnumber the free slots.
  pub text_12 : Exactly (r.refusal ≡ 12) (AllTaken names text × (fault_of text ≡ 0) × (length names + free < length (names_with names text))) (Refused call 12 0)
  text_12 = refused_room call names free holds

  -- Not refused: place, size and cells, and every byte of the table.
  pub text_reads : AllTaken names text → fault_of text ≡ 0 → length (names_with names text) ≤ length names + free
      → (r ≡ told (whole names text)) × (table' ≡ table_of (length names + free) (names_with names text))
  text_reads = text_read call names free holds

  -- Its cells are one whole term, so no batch refuses it with 3, 4 or 5.
  pub text_whole : r.refusal ≡ 0 → read_term r.cells ≡ Ok r.size
  text_whole = text_term call names free holds

-- A batch on a book that passes stops with 0, 2, 3, 4, 5 or 10; with 0 exactly when all cells are used.
pub stops_so : (call : Call) → Kept call → Passing call.book → StopNumber call.stop × (call.stop ≡ 0 ↔ call.used ≡ length call.cells)
stops_so call k p = (subst StopNumber (sym x.stop_is) e.number, ((λ z. x.used_is ∙ e.all (sym x.stop_is ∙ z)), (λ u. go u (ℕ_discrete call.stop 0))))
  where
    x : Ran call.book call.book' call.cells call.output call.output' call.stop call.used call.written_cells
    x = passing k p

    e : Ends (run (rules_in call.book) call.cells (length call.output)) (length call.cells)
    e = batch_ends (rules_in call.book) call.cells (length call.output)

    go : call.used ≡ length call.cells → Dec (call.stop ≡ 0) → call.stop ≡ 0
    go u (yes z) = z
    go u (no z) = absurd (let l = e.not_all (λ q. z (x.stop_is ∙ q)) in let v = x.used_is in omega arith)

-- A batch of refused commands and of commands of kind 2 to 7 only: every word of the book stays.
pub batch_keeps : (call : Call) → Kept call → ((s : Stage) (c : ℕ) (behind : List ℕ) → CameTo call s c behind → Idle s c behind) → call.book' ≡ call.book
batch_keeps = idle_keeps

-- ==== Demand 2: a question lists exactly the rules that answer by the published meaning, ascending, each once

-- The list of a question: a number is in it exactly when there is a rule under it in the relation with the question; ascending, so each once; never more than there are rules.
pub record ListsExactly (mode : Mode) (question : List ℕ) (rules : Rules) (numbers : List ℕ) : Type 0 where
  pub exactly : (k : ℕ) → Memᴰ k numbers ↔ Listed mode question rules k
  pub in_order : Ordered rules numbers
  pub few : length numbers ≤ rule_count rules

-- Each question that a batch comes to has such a list for its record, written in full, where the list has room; and then the batch goes on with the same rules.
pub demand_2 : {call : Call} {s : Stage} {c : ℕ} {behind : List ℕ} → CameTo call s c behind → (mode : Mode) → act_of (kind_at (c / 4096)) ≡ Some (ask mode)
    → command_refusal (command_of c behind) ≡ 0
    → ListsExactly mode (take (size_of c behind) behind) s.rules (answers mode (take (size_of c behind) behind) s.rules)
    × (length (answers mode (take (size_of c behind) behind) s.rules) < s.room
    → GoneOn call s (good (answers mode (take (size_of c behind) behind) s.rules))
    (onward s (size_of c behind) (tells (good (answers mode (take (size_of c behind) behind) s.rules)) s.rules) behind))
demand_2 {call} {s} {c} {behind} at mode is z =
    (record { exactly = lists mode q s.rules w (limits at).whole; in_order = ordered mode q s.rules; few = never_more mode q s.rules }, there)
  where
    q : List ℕ
    q = take (size_of c behind) behind

    -- the question was read as a whole term
    w : IsTerm q
    w = whole_behind behind (size_of c behind) (read_whole s.rules (c / 4096) (c % 4096) (omega arith) behind (ask mode) is refl z)

    same : effect_of s c behind ≡ tells (good (answers mode q s.rules)) s.rules
    same =
        acting s.rules (c / 4096) (c % 4096) (omega arith) behind (ask mode) is z
        ∙ ap (λ (m : Mode). tells (good (answers m q s.rules)) s.rules) (mode_is mode)

    there : length (answers mode q s.rules) < s.room
        → GoneOn call s (good (answers mode q s.rules)) (onward s (size_of c behind) (tells (good (answers mode q s.rules)) s.rules) behind)
    there l =
        let f : length (effect_of s c behind).answer.cells < s.room = subst (λ (x : Effect). length x.answer.cells < s.room) (sym same) l in
        subst (λ (x : Effect). GoneOn call s x.answer (onward s (size_of c behind) x behind)) same (gone_on at f z)

-- A rule is listed as a generalisation of a pattern exactly when that pattern, were it the rule, would be listed as an instance of it.
pub demand_2_other_way : (rules swapped : Rules) (r s : Rule) (k : ℕ) → WholeRules rules → WholeRules swapped → rules k ≡ rule r → swapped k ≡ rule s
    → Memᴰ k (answers generalisations s.term rules) ↔ Memᴰ k (answers instances r.term swapped)
demand_2_other_way = other_way_listed

-- ==== Demand 3: answers depend on the set of rules alone

-- Two batches came out alike: the same numbers, the same records, and the same rules again.
pub record Alike (ws' out' : List ℕ) (stop used n : ℕ) (vs' seen' : List ℕ) (stop' used' n' : ℕ) : Type 0 where
  pub stops : stop ≡ stop'
  pub uses : used ≡ used'
  pub writes : n ≡ n'
  pub records : take n out' ≡ take n' seen'
  pub rules : rules_in ws' ≡ rules_in vs'

written_front : {o : Outcome} {ws ws' out out' : List ℕ} {stop used n : ℕ} → Came o ws ws' out out' stop used n → take n out' ≡ written o.records
written_front {o} {ws} {ws'} {out} {out'} {stop} {used} {n} x = ap (take n) x.output ∙ take_at (written o.records) (drop n out) n (sym x.written_is)

-- Two memories that hold the same rules, the same commands, the same room.
pub demand_3 : {ws vs ws' vs' cells out out' seen seen' : List ℕ} {stop used n stop' used' n' : ℕ} → Passing ws → Passing vs → rules_in ws ≡ rules_in vs
    → length out ≡ length seen
    → Runs ws ws' cells out out' stop used n → Runs vs vs' cells seen seen' stop' used' n' → Alike ws' out' stop used n vs' seen' stop' used' n'
demand_3 {ws} {vs} {ws'} {vs'} {cells} {out} {out'} {seen} {seen'} p q same room r s =
    let x = passing r p in
    let y = passing s q in
    let e : run (rules_in ws) cells (length out) ≡ run (rules_in vs) cells (length seen) = ap₂ (λ (a : Rules) (b : ℕ). run a cells b) same room in
    record {
      stops = x.stop_is ∙ ap (λ (o : Outcome). o.stop) e ∙ sym y.stop_is;
      uses = x.used_is ∙ ap (λ (o : Outcome). o.used) e ∙ sym y.used_is;
      writes = x.written_is ∙ ap (λ (o : Outcome). length (written o.records)) e ∙ sym y.written_is;
      records = written_front x ∙ ap (λ (o : Outcome). written o.records) e ∙ sym (written_front y);
      rules = x.book.rules_are ∙ ap (λ (o : Outcome). o.rules) e ∙ sym y.book.rules_are;
    }

-- What calls make of memory: an empty book, and then batches in any order and with any refusals among them. (The check changes nothing.)
pub data History : List ℕ → Type 0 where
  emptied : {before ws : List ℕ} → Empties before ws 0 → History ws
  batch : {ws ws' cells out out' : List ℕ} {stop used n : ℕ} → History ws → Runs ws ws' cells out out' stop used n → History ws'

-- Such memory passes.
pub history_passes : {ws : List ℕ} → History ws → Passing ws
history_passes (emptied {before} {ws} e) = go (ℕ_discrete (length before) book_words)
  where
    go : Dec (length before ≡ book_words) → Passing ws
    go (yes l) = subst Passing (sym (e.made l).1) empty_passes
    go (no l) = absurd (let z = (e.refused l).0 in omega arith)
history_passes (batch {ws} {ws'} h r) = (passing r (history_passes h)).book.passes

-- Two histories that end with the same rules: the same call with the same room gives the same answers in both, and leaves the same rules again.
pub demand_3_histories : {ws vs ws' vs' cells out out' seen seen' : List ℕ} {stop used n stop' used' n' : ℕ} → History ws → History vs
    → rules_in ws ≡ rules_in vs → length out ≡ length seen
    → Runs ws ws' cells out out' stop used n → Runs vs vs' cells seen seen' stop' used' n' → Alike ws' out' stop used n vs' seen' stop' used' n'
demand_3_histories g h same room r s = demand_3 (history_passes g) (history_passes h) same room r s

-- Those answers are the ones that `run` fixes for that set of rules.
pub demand_3_answers : {ws ws' cells out out' : List ℕ} {stop used n : ℕ} → History ws → Runs ws ws' cells out out' stop used n → Ran ws ws' cells out out' stop used n
demand_3_answers h r = passing r (history_passes h)

-- ==== One outcome: two outcomes that a promise allows are equal

-- `cf_book_words`
pub words_once : (r s : ℕ) → r ≡ book_words → s ≡ book_words → r ≡ s
words_once r s e f = e ∙ sym f

-- `cf_book_empty`
pub book_empty_once : (ws a b : List ℕ) (r s : ℕ) → Empties ws a r → Empties ws b s → (r ≡ s) × (a ≡ b)
book_empty_once = empties_once

-- `cf_batch`: every number and every output cell; and the book, excepted which inside stands for its rules (docs/BOOK.md).
pub batch_once : (ws a b cells out c d : List ℕ) (stop used n stop' used' n' : ℕ) → Runs ws a cells out c stop used n → Runs ws b cells out d stop' used' n'
    → (stop ≡ stop') × (used ≡ used') × (n ≡ n') × (c ≡ d) × (rules_in a ≡ rules_in b)
batch_once ws a b cells out c d stop used n stop' used' n' (ran p x) (ran q y) =
    let e : n ≡ n' = x.written_is ∙ sym y.written_is in (
      x.stop_is ∙ sym y.stop_is,
      x.used_is ∙ sym y.used_is,
      e,
      x.output ∙ ap (λ (k : ℕ). written (run (rules_in ws) cells (length out)).records ++ drop k out) e ∙ sym y.output,
      x.book.rules_are ∙ sym y.book.rules_are,
    )
batch_once ws a b cells out c d stop used n stop' used' n' (ran p x) (turned_away f y) = absurd (f p)
batch_once ws a b cells out c d stop used n stop' used' n' (turned_away f x) (ran p y) = absurd (f p)
batch_once ws a b cells out c d stop used n stop' used' n' (turned_away f x) (turned_away g y) =
    (x.stop_is ∙ sym y.stop_is, x.used_is ∙ sym y.used_is, x.written_is ∙ sym y.written_is, x.output ∙ sym y.output, ap rules_in (x.book ∙ sym y.book))
