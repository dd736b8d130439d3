-- The first hook, then down, along and back, until nothing is before the walk.
use Rattle.std.proofs.Common.{refl, ◌∙◌, arith}
use Rattle.passing.proofs.Ending.{sizes_first, answers_no, no_child, first_hook, walk_over, walk_back, sizes_after, one_more}
use Rattle.passing.proofs.Downing.{tops_of}
use Rattle.passing.proofs.passes.Goals as goal

pub returns-then-first-eq0 : goal.returns-then-first-eq0
returns-then-first-eq0 c = no_child _ _ c.if-m-ne-WORDS.false c.maps-left.ensures c.first_of-first.ensures c.if-first-eq0.true c.is_clear.ensures

pub loop-end-init : goal.loop-end-init
loop-end-init c = record {
  sizes = sizes_first c.if-m-ne-WORDS.false c.maps-left.ensures;
  hook = first_hook _ _ c.if-m-ne-WORDS.false c.maps-left.ensures c.first_of-first.ensures c.if-first-eq0.false;
}

pub returns-in_default : goal.returns-in_default
returns-in_default c = answers_no c.in_default.ensures

pub returns-then-not-rules : goal.returns-then-not-rules
returns-then-not-rules c = answers_no (c.rules.ensures.no c.if-not-rules.true)

pub returns-then-end-eq0 : goal.returns-then-end-eq0
returns-then-end-eq0 c =
    walk_over c.loop-end.invariant.sizes.words (c.rules.ensures.over c.if-not-rules.false) c.if-end-eq0.true c.is_clear-then-end-eq0.ensures

pub offset_bounds-stack-end : goal.offset_bounds-stack-end
offset_bounds-stack-end c = omega (arith, tops_of c.in-Some.ensures.hook)

pub bounds-stack-end : goal.bounds-stack-end
bounds-stack-end c = omega (arith, tops_of c.in-Some.ensures.hook)

pub loop-end-preserved : goal.loop-end-preserved
loop-end-preserved c = record {
  sizes = sizes_after c.loop-end.invariant.sizes (c.rules.auto.left ∙ c.down.auto.left) c.down.auto.way c.down.auto.wants c.down.auto.stack;
  hook = walk_back c.loop-end.invariant.sizes.words (c.rules.ensures.over c.if-not-rules.false) (one_more c.if-end-eq0.false) refl c.back-at.ensures;
}
