-- A map with the bits of zeros has the words of zeros.
use Rattle.std.proofs.Common.{◌≡◌, rules, tests}
use Rattle.std.proofs.lemmas.Iterator.{cases_from_all, YieldsList-from_slice}
use Rattle.bits.proofs.Comparing.{all_zeros}
use Rattle.bits.proofs.is_zero.Goals as goal

pub returns-clause-no : goal.returns-clause-no
returns-clause-no c differ e =
    let map = c.args.map.now in
    let by_call = cases_from_all _ _ _ (λ x. x ≡ 0) (λ x. ¬ (x ≡ 0)) c.all.ensures.ran (YieldsList-from_slice map cc) (λ x q k. search (rules, tests))
    (λ x q k. search (rules, tests)) in
    all_zeros c.all.result map by_call (λ k. (c.type_inv.map k).fits) e differ
