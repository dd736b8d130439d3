-- What trimming from the link reached gives is what it gives from the first
use Rattle.std.proofs.Common.{suc}
use Rattle.layout.specs.Layout.{last_link}
use Rattle.shape.specs.Tally.{tally}
use Rattle.links.specs.Words.{shape}
use Rattle.tree.proofs.Trimming.{Trimming}
use Rattle.tree.proofs.trim.Given as goal

abbrev pub invariant-loop-l : goal.invariant-loop-l
invariant-loop-l l = Trimming l.fn.m l.m (suc l.last) l.l

abbrev pub decreases-loop-l : goal.decreases-loop-l
decreases-loop-l l = tally (shape l.m).used last_link
