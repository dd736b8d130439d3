-- Two counts, both within the book's limits.
use Rattle.std.proofs.Common.{sym, subst, ℕ, ◌≤◌, arith}
use Rattle.book.specs.Facts.{limited}
use Rattle.batch.proofs.records.room.Goals as goal

pub overflow_cast-rules : goal.overflow_cast-rules
overflow_cast-rules c =
    let h = subst (λ (n : ℕ). n ≤ 512) (sym c.room-counted.ensures.rules_are) (limited c.args.book.now c.requires).few in record { fits = omega arith }

pub overflow_cast-nodes : goal.overflow_cast-nodes
overflow_cast-nodes c =
    let h = subst (λ (n : ℕ). n ≤ 4096) (sym c.room-counted.ensures.nodes_are) (limited c.args.book.now c.requires).nodes in record { fits = omega arith }
