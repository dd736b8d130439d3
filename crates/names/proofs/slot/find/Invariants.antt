-- The slots passed don't say the name: each has another length or a byte that differs. The inner loop's turns give the bytes
-- that agree.
use Rattle.std.proofs.Common.{◌≡◌, ◌+◌, ◌<◌, ℕ, get_or}
use Rattle.names.specs.Leaves.{Says}
use Rattle.names.proofs.slot.find.Given as goal

abbrev pub invariant-loop-i : goal.invariant-loop-i
invariant-loop-i l = (k : ℕ) → k < l.i → get_or l.table (l.at + 1 + k) 0 ≡ get_or l.name k 0

abbrev pub invariant-slots : goal.invariant-slots
invariant-slots l = (k : ℕ) → k < l.slot → Says l.table k l.name → ⊥
