-- A rule that is held is shown by its cells; one that is not, by its refusal.
use Rattle.std.proofs.Common.{sym, ◌∙◌, subst, ℕ, arith, length-take}
use Rattle.commands.specs.Records.{bare}
use Rattle.commands.specs.Writing.{Writes, written_as}
use Rattle.batch.proofs.Doing.{show_none, show_some}
use Rattle.batch.proofs.records.show.Goals as goal

pub returns-in_default : goal.returns-in_default
returns-in_default c =
    written_as _ _ c.args.out.now _ _ (show_none c.args.book.now c.args.number (sym c.in_default.is ∙ c.show.ensures))
    (subst (λ (k : ℕ). Writes (bare k) c.args.out.now c.put_bare.new.out c.put_bare.result) c.from.ensures c.put_bare.ensures)

pub slice_bounds-cells-end : goal.slice_bounds-cells-end
slice_bounds-cells-end c =
    let it = show_some c.args.book.now c.args.number c.in-Some.shown (sym c.in-Some.is ∙ c.show.ensures) in
    omega (arith, it.sized, length-take c.in-Some.shown.size c.in-Some.shown.cells)

pub slice_bounds-put_good-end : goal.slice_bounds-put_good-end
slice_bounds-put_good-end c = (show_some c.args.book.now c.args.number c.in-Some.shown (sym c.in-Some.is ∙ c.show.ensures)).sized

pub returns : goal.returns
returns c =
    written_as _ _ c.args.out.now _ _ (show_some c.args.book.now c.args.number c.in-Some.shown (sym c.in-Some.is ∙ c.show.ensures)).record_is c.put_good.ensures
