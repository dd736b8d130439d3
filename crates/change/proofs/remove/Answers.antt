-- The rule hangs at its place; trimming from there up is the set without it.
use Rattle.std.proofs.Common.{sym, ap, ◌∙◌}
use Rattle.std.proofs.lemmas.Result.{err_from_is_err_and}
use Rattle.std.specs.Result.{result_ok}
use Rattle.shape.specs.Rows.{passes_tree}
use Rattle.book.specs.Looking.{tree_long}
use Rattle.book.specs.Placing.{not_placed, placed}
use Rattle.change.proofs.Removing.{nothing_removed, rule_gone}
use Rattle.change.proofs.remove.Goals as goal

pub returns-in_err-place : goal.returns-in_err-place
returns-in_err-place c =
    let p = err_from_is_err_and c.from_residual.result c.from_residual.ensures.1 in
    rw p.1 (nothing_removed c.args.m.now c.args.number c.requires.passing
    (not_placed c.args.m.now c.args.number (sym c.place_of.ensures.place ∙ c.ok_or.ensures.ok_part ∙ ap result_ok c.in_err-place.was)))

pub trim-requires-clause-sound : goal.trim-requires-clause-sound
trim-requires-clause-sound c =
    record { size = tree_long c.args.m.now c.requires.passing.size; tree = passes_tree c.requires.passing.right.tree }

pub trim-requires-clause-used : goal.trim-requires-clause-used
trim-requires-clause-used c =
    (placed c.args.m.now c.args.number c.in_ok-place.place (sym c.place_of.ensures.place ∙ c.ok_or.ensures.ok_part ∙ ap result_ok c.in_ok-place.was)).used

pub returns : goal.returns
returns c =
    rule_gone c.args.m.now c.args.number c.in_ok-place.place c.requires.passing
    (placed c.args.m.now c.args.number c.in_ok-place.place (sym c.place_of.ensures.place ∙ c.ok_or.ensures.ok_part ∙ ap result_ok c.in_ok-place.was))
    c.trim.new.m (c.trim.auto.m ∙ tree_long c.args.m.now c.requires.passing.size) c.trim.ensures
