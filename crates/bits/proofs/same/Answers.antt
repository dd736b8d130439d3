-- Maps with the same bits have the same words, and so they are equal.
use Rattle.std.proofs.Common.{◌≡◌, ℕ, ◌<◌, ◌^◌, true, sym, ◌∙◌, get_or, rules}
use Rattle.std.proofs.lemmas.Bool.{true≢false}
use Rattle.bits.proofs.Comparing.{same_words}
use Rattle.bits.proofs.same.Goals as goal

pub returns-clause-no : goal.returns-clause-no
returns-clause-no c differ e =
    let a : (k : ℕ) → get_or c.args.a.now k 0 < 2 ^ 64 = search rules in
    let b : (k : ℕ) → get_or c.args.b.now k 0 < 2 ^ 64 = search rules in
    let same = same_words c.args.a.now c.args.b.now c.requires a b e in
    let yes : c.eq.result ≡ true = search rules in
    absurd (true≢false (sym yes ∙ differ))
