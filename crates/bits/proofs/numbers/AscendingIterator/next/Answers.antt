-- The number in hand comes first, and the next one behind it is taken in hand.
use Rattle.std.proofs.Common.{ap, ◌∙◌, arith, length, rules}
use Rattle.bits.specs.Numbers.{members_on}
use Rattle.bits.proofs.Numbering.{comes}
use Rattle.bits.proofs.numbers.AscendingIterator.next.Goals as goal

pub after-self-requires-clause-at_bound : goal.after-self-requires-clause-at_bound
after-self-requires-clause-at_bound c = let n = c.args.self.now.is_next _ c.in_ok-number.was in (n.low, n.member)

pub returns-clause-steps : goal.returns-clause-steps
returns-clause-steps c =
    let n = c.args.self.now.is_next _ c.in_ok-number.was in
    ap (members_on c.args.self.now.map.now) c.in_ok-number.was
    ∙ comes c.args.self.now.map.now c.in_ok-number.number n c.after-self.result c.after-self.ensures

pub returns-clause-goes : goal.returns-clause-goes
returns-clause-goes c =
    let n = c.args.self.now.is_next _ c.in_ok-number.was in
    let e = ap length (ap (members_on c.args.self.now.map.now) c.in_ok-number.was
    ∙ comes c.args.self.now.map.now c.in_ok-number.number n c.after-self.result c.after-self.ensures) in
    record { on = λ f. (search rules, search rules, omega arith); keeps = search rules; rests = search rules }
