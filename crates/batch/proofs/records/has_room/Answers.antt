-- More than 512 cells are room for any list; else the marks are counted.
use Rattle.std.proofs.Common.{sym, ap, ◌∙◌, ℕ, arith, lt-ltb}
use lib.Dec.{ltb}
use Rattle.batch.proofs.records.has_room.Goals as goal

pub returns-then-room-gt-RULES : goal.returns-then-room-gt-RULES
returns-then-room-gt-RULES c =
    let few = c.requires.few in
    let room = c.if-room-gt-RULES.true in
    lt-ltb 512 c.args.room room ∙ sym (lt-ltb _ c.args.room (omega arith))

pub returns-else-room-gt-RULES : goal.returns-else-room-gt-RULES
returns-else-room-gt-RULES c = ap (λ (n : ℕ). ltb n c.args.room) c.count.ensures
