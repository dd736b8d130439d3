-- A name of the lookup table is found there, another among those gathered; one that is in neither is put behind these.
use Rattle.std.proofs.Common.{arith}
use Rattle.text.proofs.Numbering.{name_held, name_gathered, name_new}
use Rattle.text.proofs.naming.enter_name.Goals as goal

pub returns-in-Some-clause-is : goal.returns-in-Some-clause-is
returns-in-Some-clause-is c = λ names g. name_held g _ _ (c.in-Some.ensures.1 g.old g.free g.holds g.held_is) c.in-Some.ensures.0

pub returns-in-Some-look_up-clause-is : goal.returns-in-Some-look_up-clause-is
returns-in-Some-look_up-clause-is c =
    λ names g.
    name_gathered g _ _ (c.in_default.ensures.1 g.old g.free g.holds g.held_is) (omega arith)
    _ (c.in-Some-look_up.ensures.1 g.gathered _ g.fresh_holds g.new_is) c.in-Some-look_up.ensures.0

pub returns-clause-is : goal.returns-clause-is
returns-clause-is c =
    λ names g.
    name_new g _ _ (c.in_default.ensures.1 g.old g.free g.holds g.held_is) (omega arith)
    _ (c.in_default-look_up.ensures.1 g.gathered _ g.fresh_holds g.new_is) c.requires.0 (omega arith)
    c.requires.1 _ (c.add.ensures g.gathered _ g.fresh_holds g.new_is (omega arith))
