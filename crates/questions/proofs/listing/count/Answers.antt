-- What comes are the marked numbers, and they are counted.
use Rattle.std.proofs.Common.{◌∙◌, ap, inl, length, arith}
use Rattle.std.proofs.lemmas.Iterator.Consumers.{YieldsList-from_first, count_from_yields_List}
use Rattle.bits.specs.Numbers.{members_on}
use Rattle.questions.proofs.Writing.{all_members, few}
use Rattle.questions.proofs.listing.count.Goals as goal

pub count-requires-clause-fits : goal.count-requires-clause-fits
count-requires-clause-fits c = inl (omega (arith, ap length c.members.ensures, few c.args.marks.now 4096 0))

pub returns : goal.returns
returns c =
    count_from_yields_List c.members.result c.count.result c.count.ensures.ran
    (YieldsList-from_first (λ x. x) (λ s. members_on s.map.now s.next) _ c.members.ensures)
    ∙ ap length (all_members c.args.marks.now)
