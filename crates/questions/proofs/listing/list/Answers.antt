-- What has come stands in front, and the cells behind it are as they were.
use Rattle.std.proofs.Common.{ℕ, List, ◌++◌, ◌<◌, ap, ◌∙◌, drop, length, length-append, arith}
use Rattle.questions.specs.Asking.{numbers_in_order}
use Rattle.questions.proofs.Writing.{turn, end, one_more}
use Rattle.questions.proofs.listing.list.Goals as goal

pub overflow_cast-out : goal.overflow_cast-out
overflow_cast-out c =
    let l = c.loop-number in
    let t = turn _ _ _ c.members-number-items.ensures c.into_iter-number-iterator.ensures.into_iter_gives _ _ l.yielded_by _ c.next.new.self c.next.ensures.steps _ c.in-Some.is in
    omega (arith, t.1)

pub bounds-out-n : goal.bounds-out-n
bounds-out-n c =
    let l = c.loop-number in
    let t = turn _ _ _ c.members-number-items.ensures c.into_iter-number-iterator.ensures.into_iter_gives _ _ l.yielded_by _ c.next.new.self c.next.ensures.steps _ c.in-Some.is in
    omega (arith, t.0, l.auto.out)

pub loop-number-preserved : goal.loop-number-preserved
loop-number-preserved c =
    let l = c.loop-number in
    let t = turn _ _ _ c.members-number-items.ensures c.into_iter-number-iterator.ensures.into_iter_gives _ _ l.yielded_by _ c.next.new.self c.next.ensures.steps _ c.in-Some.is in
    let room : l.n < length c.args.out.now = omega (arith, t.0) in
    record {
      count = omega (arith, length-append {A = ℕ});
      is = one_more l.yielded c.args.out.now l.out l.n c.in-Some.number l.invariant.count room l.invariant.is;
    }

pub returns : goal.returns
unfolding numbers_in_order
returns c rules =
    let l = c.loop-number in
    let all = end _ _ _ c.members-number-items.ensures c.into_iter-number-iterator.ensures.into_iter_gives _ _ l.yielded_by _ c.next.new.self c.next.ensures.steps c.in-None.is in
    record { count = l.invariant.count ∙ ap length all; is = l.invariant.is ∙ ap (λ (z : List ℕ). z ++ drop l.n c.args.out.now) all }
