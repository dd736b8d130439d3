-- The cells passed are blank, and behind them the number still stands.
use Rattle.std.proofs.Common.{refl, arith}
use Rattle.std.proofs.Math.ListN.{get_or-replicate}
use Rattle.book.proofs.record.row.Goals as goal

pub loop-i-init : goal.loop-i-init
loop-i-init c = (refl, (λ k h. absurd (omega arith)), λ k a b. get_or-replicate 33 k c.args.number 0 b)
