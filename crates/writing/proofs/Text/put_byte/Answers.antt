-- The byte is stored where there is room, and else nothing is.
use Rattle.std.proofs.Common.{refl}
use Rattle.writing.specs.Putting.{put_in, put_out}
use Rattle.writing.proofs.Text.put_byte.Goals as goal

pub returns-then-self : goal.returns-then-self
returns-then-self c = record { same = refl; puts = put_in c.args.byte c.args.self.now.bytes.now c.args.self.now.at c.if-self.true }

pub returns-else-self : goal.returns-else-self
returns-else-self c = record { same = refl; puts = put_out c.args.byte c.args.self.now.bytes.now c.args.self.now.at c.if-self.false }
