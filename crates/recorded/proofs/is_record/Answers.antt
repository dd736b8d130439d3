-- The most general term of the way's form is a term of it; any other is read cell by cell.
use Rattle.recorded.proofs.Moving.{plainly}
use Rattle.recorded.proofs.is_record.Goals as goal

pub returns-then-is_plain : goal.returns-then-is_plain
returns-then-is_plain c = plainly c.requires c.is_plain.ensures c.if-is_plain.true
