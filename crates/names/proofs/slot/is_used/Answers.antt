-- A used slot has a length below 32, a name after it and zeros after that; and these make it one.
use Rattle.deciding.specs.Deciding.{denied}
use Rattle.names.proofs.Using.{too_long, no_name, used_if}
use Rattle.names.proofs.slot.is_used.Goals as goal

pub returns-then-n-ge-SLOT : goal.returns-then-n-ge-SLOT
returns-then-n-ge-SLOT c = denied (too_long c.args.slot.now c.requires _ c.from-n.ensures c.if-n-ge-SLOT.true)

pub returns-then-is_name : goal.returns-then-is_name
returns-then-is_name c =
    used_if c.args.slot.now c.requires _ c.from-n.ensures c.if-n-ge-SLOT.false (c.is_name.ensures.yes c.if-is_name.true) _ c.all_zero.ensures

pub returns-else-is_name : goal.returns-else-is_name
returns-else-is_name c = rw c.if-is_name.false (denied (no_name c.args.slot.now c.requires _ c.from-n.ensures (c.is_name.ensures.no c.if-is_name.false)))
