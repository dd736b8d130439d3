-- Each turn numbers one token, up to the first that is refused.
use Rattle.std.proofs.Common.{◌<◌, length, length-set, refl, arith, rules}
use Rattle.std.proofs.lemmas.Result.{err_from_is_err_and}
use Rattle.text.proofs.Counting.{going_start, going_ends, going_stops, going_on}
use Rattle.text.proofs.naming.number_all.Goals as goal

pub loop-i-init : goal.loop-i-init
loop-i-init c = record {
  few = omega arith;
  cells_room = refl;
  going = λ on names free tokens h e n t. rw c.none-variables.ensures (going_start _ _ _ names free tokens _ _ c.requires.no_names.0 c.requires.no_names.1 h e);
}

pub loop-i-preserved : goal.loop-i-preserved
loop-i-preserved c = record {
  few = search rules;
  cells_room = simp length-set c.loop-i.invariant.cells_room;
  going = λ on names free tokens h e m t.
      let i : c.loop-i.i < length tokens = omega arith in
      let g = c.loop-i.invariant.going on names free tokens h e m t in
      let here = on c.loop-i.i (omega arith) in
      let x = rw c.in_ok-number.was at (c.number_token.ensures.is here g.all _ _ _ (t.stands c.loop-i.i i) g.gathered) in
      going_on g i (omega arith) _ (t.stands c.loop-i.i i) _ _ _ _ x;
}

pub returns-in_err-number : goal.returns-in_err-number
returns-in_err-number c =
    let p = err_from_is_err_and c.from_residual.result c.from_residual.ensures.1 in
    rw (p.1, p.2)
    (λ on names free tokens h e m t.
    let i : c.loop-i.i < length tokens = omega arith in
    let g = c.loop-i.invariant.going on names free tokens h e m t in
    let here = on c.loop-i.i (omega arith) in
    let x = rw c.in_err-number.was at (c.number_token.ensures.is here g.all _ _ _ (t.stands c.loop-i.i i) g.gathered) in
    going_stops g i _ x.refusal_is)

pub returns : goal.returns
returns c = λ on names free tokens h e n t. going_ends (c.loop-i.invariant.going on names free tokens h e n t) (omega arith)
