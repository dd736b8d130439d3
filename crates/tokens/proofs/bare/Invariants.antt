-- At each turn the bytes so far are in the buffer, and the token goes on from here.
use Rattle.std.proofs.Common.{◌≡◌, drop}
use Rattle.tokens.specs.Tokens.{bare}
use Rattle.tokens.proofs.Steps.{Going}
use Rattle.tokens.proofs.bare.Given as goal

abbrev pub invariant-loop-i : goal.invariant-loop-i
invariant-loop-i l = record {
  same_buffer : l.kept.buffer.ghost_name ≡ l.initial.kept.buffer.ghost_name;
  going : Going (bare (drop l.at l.text)) (bare (drop l.i l.text)) l.kept.buffer.now l.kept.size;
}
