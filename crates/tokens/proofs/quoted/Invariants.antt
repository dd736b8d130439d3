-- At each turn the bytes so far are in the buffer, and the token goes on from here.
use Rattle.std.proofs.Common.{◌≡◌, drop}
use Rattle.tokens.specs.Tokens.{quoted}
use Rattle.tokens.proofs.Steps.{Going, quoted_in}
use Rattle.tokens.proofs.quoted.Given as goal

abbrev pub invariant-loop-i : goal.invariant-loop-i
invariant-loop-i l = record {
  same_buffer : l.kept.buffer.ghost_name ≡ l.initial.kept.buffer.ghost_name;
  going : Going (quoted (drop l.at l.text)) (quoted_in l.escaped (drop l.i l.text)) l.kept.buffer.now l.kept.size;
}
