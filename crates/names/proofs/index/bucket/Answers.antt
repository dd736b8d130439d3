-- Each turn takes one byte into the hash.
use Rattle.std.proofs.Common.{ℕ, ◌%◌, sym, ap, ◌∙◌, arith}
use Rattle.names.proofs.Hashing.{hash_end, hash_turn}
use Rattle.names.proofs.index.bucket.Goals as goal

pub loop-byte-preserved : goal.loop-byte-preserved
loop-byte-preserved c =
    let l = c.loop-byte in
    (omega arith, hash_turn c.args.name.now l.h l.byte-index c.from.result c.from.ensures (omega arith) ∙ l.invariant.1)

pub returns : goal.returns
returns c =
    let l = c.loop-byte in
    let e = sym (hash_end c.args.name.now l.h l.byte-index (omega arith)) ∙ l.invariant.1 in
    (ap (λ (h : ℕ). h % 1024) e, omega arith)
