-- Past the end a list reads as 0.
use Rattle.std.proofs.Common.{rules}
use Rattle.std.proofs.iter.runs.Made.{chains}
use Rattle.names.proofs.Using.{zero_within}
use Rattle.names.proofs.slot.all_zero.Goals as goal

pub returns : goal.returns
returns c = zero_within _ _ (search (rules, chains))
