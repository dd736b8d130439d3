-- What is left of the hash, from the present one on, stays the hash of all bytes.
use Rattle.std.proofs.Common.{◌≡◌, ◌<◌, drop}
use Rattle.names.specs.Index.{hash_from}
use Rattle.names.proofs.index.bucket.Given as goal

abbrev pub invariant-loop-byte : goal.invariant-loop-byte
invariant-loop-byte l = (l.h < 32768) × (hash_from l.h (drop l.byte-index l.name) ≡ hash_from 0 l.name)
