-- What is left of the comment is the same at each turn.
use Rattle.std.proofs.Common.{length, ◌≡◌, ◌≤◌, drop}
use Rattle.tokens.specs.Tokens.{comment}
use Rattle.tokens.proofs.comment_end.Given as goal

abbrev pub invariant-loop-i : goal.invariant-loop-i
invariant-loop-i l = (l.at ≤ l.i) × (l.i ≤ length l.text) × (comment (drop l.i l.text) ≡ comment (drop l.at l.text))
