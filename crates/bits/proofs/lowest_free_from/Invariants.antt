-- No word passed has a clear bit, and the first set one of `!w` is the first clear one of w
use Rattle.std.proofs.Common.{◌*◌}
use Rattle.bits.specs.Packed.{bits, Skipped}
use Rattle.bits.proofs.lowest_free_from.Given as goal

abbrev pub invariant-loop-i : goal.invariant-loop-i
invariant-loop-i l = Skipped 0 (bits l.map) 0 (l.i * 64)
