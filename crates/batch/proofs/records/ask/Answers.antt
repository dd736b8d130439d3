-- Whether the list has room is known before anything is written; then the numbers stand behind the first cell.
use Rattle.std.proofs.Common.{◌≡◌, refl, sym, ap, ◌∙◌, subst, ℕ, ◌+◌, ◌*◌, ◌-◌, ◌≤◌, ◌<◌, arith, length}
use borrow.Author.Tests.{ltb-false, ltb-true}
use Rattle.book.specs.Memory.{rules_in}
use Rattle.commands.specs.Kinds.{mode_of}
use Rattle.commands.specs.Writing.{no_room, cells_then}
use Rattle.batch.specs.Effects.{asks}
use Rattle.batch.proofs.Doing.{listed}
use Rattle.batch.proofs.records.ask.Goals as goal

pub returns-then-not-has_room : goal.returns-then-not-has_room
returns-then-not-has_room c =
    let h = ltb-false _ (length c.args.out.now) (sym c.has_room.ensures ∙ c.if-not-has_room.true) in
    no_room (asks (rules_in c.args.book.now) (mode_of c.args.fills_question c.args.fills_rule) c.args.question.now).answer c.args.out.now
    (subst (λ (n : ℕ). length c.args.out.now ≤ n) c.mark.ensures.marked.many h)

pub overflow_cast-out : goal.overflow_cast-out
overflow_cast-out c = let m = c.mark.ensures.marked in omega (arith, (listed m (c.list-count.ensures (rules_in c.args.book.now))).0, m.many, m.few)

pub overflow_add-result : goal.overflow_add-result
overflow_add-result c = let m = c.mark.ensures.marked in omega (arith, (listed m (c.list-count.ensures (rules_in c.args.book.now))).0, m.many, m.few)

pub returns : goal.returns
returns c =
    let out = c.args.out.now in
    let m = c.mark.ensures.marked in
    let room = ltb-true _ (length out) (sym c.has_room.ensures ∙ c.if-not-has_room.false) in
    let list = listed m (c.list-count.ensures (rules_in c.args.book.now)) in
    let n : c.list-count.result ≡ 4096 * 0 + length (asks (rules_in c.args.book.now) (mode_of c.args.fills_question c.args.fills_rule) c.args.question.now).answer.cells = omega (arith, list.0) in
    cells_then (asks (rules_in c.args.book.now) (mode_of c.args.fills_question c.args.fills_rule) c.args.question.now).answer c.list-count.result n out
    c.list-count.new.out (length out - 1) (c.list-count.result + 1)
    (subst (λ (k : ℕ). k < length out) m.many room)
    refl (ap (λ (j : ℕ). j + 1) list.0) list.1
