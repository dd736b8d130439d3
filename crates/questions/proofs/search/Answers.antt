-- What was found so far, and what the points on the list have yet to give, is all that there is to find, and each turn leaves less of it.
use Rattle.std.proofs.Common.{refl, ap, ◌∙◌, List, MutBor}
use Rattle.questions.specs.declared.Point.{Point}
use Rattle.questions.proofs.Searching.{starts_out, none_left, stood, goes, turned}
use Rattle.questions.proofs.search.Goals as goal

pub loop-way-init : goal.loop-way-init
loop-way-init c =
    let s = c.args in
    record {
      loop = starts_out s.fills_question s.fills_rule s.m.now s.question.now s.marks.now s.list.now c.requires.0 c.requires.1.0 c.requires.1.1.0 c.requires.1.1.1;
      same = refl;
    }

pub turn-requires : goal.turn-requires
turn-requires c =
    let s = c.args in
    let l = c.loop-way in
    stood s.fills_question s.fills_rule s.m.now s.question.now s.marks.now l.marks l.points.list.now l.points.depth l.invariant.loop refl refl c.in-Some.ensures

pub loop-way-smaller-in-Some-turn : goal.loop-way-smaller-in-Some-turn
loop-way-smaller-in-Some-turn c =
    let s = c.args in
    let l = c.loop-way in
    (turned s.fills_question s.fills_rule s.m.now s.question.now s.marks.now l.marks l.points.list.now l.points.depth l.invariant.loop refl refl c.in-Some.ensures
    c.in-Some-turn.ensures c.push.ensures c.push-in-Some-turn.ensures c.push-in-Some-turn-2.ensures).fewer

pub loop-way-preserved-in-Some-turn : goal.loop-way-preserved-in-Some-turn
loop-way-preserved-in-Some-turn c =
    let s = c.args in
    let l = c.loop-way in
    record {
      loop = (turned s.fills_question s.fills_rule s.m.now s.question.now s.marks.now l.marks l.points.list.now l.points.depth l.invariant.loop refl refl c.in-Some.ensures
          c.in-Some-turn.ensures c.push.ensures c.push-in-Some-turn.ensures c.push-in-Some-turn-2.ensures).again;
      same = c.push-in-Some-turn-2.ensures.same ∙ c.push-in-Some-turn.ensures.same ∙ c.push.ensures.same ∙ ap (λ (z : MutBor (List Point)). z.ghost_name) c.in-Some.ensures.same ∙ l.invariant.same;
    }

pub loop-way-smaller : goal.loop-way-smaller
loop-way-smaller c =
    let s = c.args in
    let l = c.loop-way in
    (goes s.fills_question s.fills_rule s.m.now s.question.now s.marks.now l.marks l.points.list.now l.points.depth l.invariant.loop refl refl c.in-Some.ensures
    c.in_default-turn.ensures).fewer

pub loop-way-preserved : goal.loop-way-preserved
loop-way-preserved c =
    let s = c.args in
    let l = c.loop-way in
    record {
      loop = (goes s.fills_question s.fills_rule s.m.now s.question.now s.marks.now l.marks l.points.list.now l.points.depth l.invariant.loop refl refl c.in-Some.ensures
          c.in_default-turn.ensures).again;
      same = ap (λ (z : MutBor (List Point)). z.ghost_name) c.in-Some.ensures.same ∙ l.invariant.same;
    }

pub returns : goal.returns
returns c =
    let s = c.args in
    let l = c.loop-way in
    none_left s.fills_question s.fills_rule s.m.now s.question.now s.marks.now l.marks l.points.list.now l.points.depth l.invariant.loop refl c.in_default.ensures
