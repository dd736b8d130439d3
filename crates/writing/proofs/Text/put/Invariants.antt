-- The bytes from the index on are left.
use Rattle.std.proofs.Common.{drop}
use Rattle.writing.specs.Texts.{Left}
use Rattle.writing.proofs.Text.put.Given as goal

abbrev pub invariant-loop-byte : goal.invariant-loop-byte
invariant-loop-byte l = Left l.initial.self l.self (drop l.byte-index l.bytes) l.bytes
