-- After i turns the first i bytes are copied.
use Rattle.std.proofs.Common.{length, ◌≡◌}
use Rattle.std.proofs.Math.Seq.{paste}
use Rattle.names.proofs.slot.copy.Given as goal

abbrev pub invariant-loop-i : goal.invariant-loop-i
invariant-loop-i l = (length l.table ≡ length l.fn.table) × (l.table ≡ paste l.fn.table l.at l.bytes l.i)
