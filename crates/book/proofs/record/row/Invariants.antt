-- The cells passed are blank, and behind them the number still stands.
use Rattle.std.proofs.Common.{◌≡◌, ℕ, ◌≤◌, ◌<◌, length, get_or}
use Rattle.book.specs.Memory.{blank_number}
use Rattle.book.specs.Filling.{Filled}
use Rattle.book.proofs.record.row.Given as goal

abbrev pub invariant-loop-i : goal.invariant-loop-i
invariant-loop-i l = (length l.row ≡ 33) × Filled l.row l.i (λ k. blank_number (get_or l.term k 0)) × ((k : ℕ) → l.i ≤ k → k < 33 → get_or l.row k 0 ≡ l.number)
