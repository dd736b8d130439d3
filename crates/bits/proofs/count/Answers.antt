-- A word's bits that are set are its ones.
use Rattle.std.proofs.Common.{◌≡◌, ◌∙◌, count_ones, rules, sum_by}
use Rattle.bits.proofs.Counting.{sum_ones}
use Rattle.bits.proofs.count.Goals as goal

pub returns : goal.returns
returns c =
    let ones : c.sum.result ≡ sum_by count_ones c.args.map.now = search rules in
    ones ∙ sum_ones c.args.map.now (λ k. (c.type_inv.map k).fits)
