-- A number that is held, and a map of rules that is full, are the first two refusals; else the lowest free place is one.
use Rattle.std.proofs.Common.{sym, ◌∙◌, subst}
use Rattle.change.specs.Promises.{Chooses}
use Rattle.change.proofs.Adding.{held_some, new_none, chosen}
use Rattle.change.proofs.free_place.Goals as goal

pub returns-then-is_some : goal.returns-then-is_some
returns-then-is_some c = held_some c.args.m.now c.args.number c.place_of.result c.place_of.ensures.place (sym c.is_some.ensures ∙ c.if-is_some.true)

pub returns : goal.returns
returns c =
    let new = new_none c.args.m.now c.args.number c.place_of.result c.place_of.ensures.place (sym c.is_some.ensures ∙ c.if-is_some.false) in
    subst (Chooses c.args.m.now c.args.number) (sym c.ok_or.ensures.value)
    (chosen c.args.m.now c.args.number c.requires.passing new c.lowest_free.result c.lowest_free.ensures)
