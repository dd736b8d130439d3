-- Words that are all zeros have no bit, and others have one.
use Rattle.std.proofs.Common.{◌∙◌, ap, sym, ℕ}
use Rattle.std.proofs.Math.ListN.{replicate}
use Rattle.bits.specs.Packed.{bits}
use Rattle.passing.proofs.Ending.{clear_yes, clear_no}
use Rattle.passing.proofs.is_clear.Goals as goal

pub returns : goal.returns
returns c =
    let left = c.args.left.now in
    let long = ap (λ (n : ℕ). replicate {A = ℕ} n 0) c.requires in record {
      yes = λ q. clear_yes left (c.is_zero.ensures.yes q ∙ long);
      no = λ q. clear_no left c.requires (λ e. c.is_zero.ensures.no q (e ∙ sym (ap bits long)));
    }
