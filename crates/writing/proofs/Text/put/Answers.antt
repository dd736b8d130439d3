use Rattle.std.proofs.Common.{arith}
use Rattle.writing.specs.Putting.{one_more}
use Rattle.writing.specs.Texts.{all_left, some_put}
use Rattle.writing.proofs.Text.put.Goals as goal

pub loop-byte-init : goal.loop-byte-init
loop-byte-init c = all_left

pub loop-byte-preserved : goal.loop-byte-preserved
loop-byte-preserved c = some_put _ (one_more c.args.bytes.now c.loop-byte.byte-index (omega arith)) c.loop-byte.invariant c.put_byte.ensures
