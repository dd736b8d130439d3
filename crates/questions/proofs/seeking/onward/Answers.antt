-- Up to the symbol wanted where it is ahead; else up to the last, the blank, since the siblings ahead are past it.
use Rattle.std.proofs.Common.{◌≡◌, inl, ℕ, ◌≤◌, arith}
use Rattle.links.specs.Words.{cell_of}
use Rattle.questions.specs.Promises.{Reach}
use Rattle.questions.proofs.Leaps.{up_to_it}
use Rattle.questions.proofs.seeking.onward.Goals as goal
use Rattle.questions.proofs.seeking.onward.Goals.{else-cell-lt-MARK-via-then-cell-lt-MARK+else-cell_of-cell, else-cell-lt-MARK-via-else-cell-lt-MARK}

past : (cell r c : ℕ) → r ≡ c → cell ≤ r → ¬ (c ≡ cell) → Reach cell c 32768
past cell r c e h n = record { low = omega arith; between = λ k l m d. n (omega arith) }

no_symbol : (cell c : ℕ) → 32768 ≤ cell → Reach cell c 32768
no_symbol cell c h = record { low = omega arith; between = λ k l m e. omega arith }

pub returns-then-cell_of-cell : goal.returns-then-cell_of-cell
returns-then-cell_of-cell c = record { most = c.args.cell; reach = up_to_it c.args.cell (cell_of c.args.w) c.if-cell-lt-MARK.true; on = inl c.next_of.ensures }

pub returns : goal.returns
returns c = record {
  most = 32768;
  reach = elim c.else-cell-lt-MARK.branch [ else-cell-lt-MARK-via-then-cell-lt-MARK+else-cell_of-cell w ↦ past c.args.cell w.cell_of.result (cell_of c.args.w) w.cell_of.ensures w.if-cell_of-cell.false c.requires.not_it | else-cell-lt-MARK-via-else-cell-lt-MARK w ↦ no_symbol c.args.cell (cell_of c.args.w) w.if-cell-lt-MARK.false ];
  on = c.to_last.ensures;
}
