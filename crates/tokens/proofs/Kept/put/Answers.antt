-- With room the byte is put behind the others; without, the first 32 stay.
use Rattle.std.proofs.Common.{arith}
use Rattle.tokens.proofs.Steps.{put_room, put_full}
use Rattle.tokens.proofs.Kept.put.Goals as goal

pub returns-then-self-lt32-clause-is : goal.returns-then-self-lt32-clause-is
returns-then-self-lt32-clause-is c = λ bytes k. put_room _ _ _ bytes c.args.self.now.room (omega arith) k

pub returns-else-self-lt32-clause-is : goal.returns-else-self-lt32-clause-is
returns-else-self-lt32-clause-is c = λ bytes k. put_full _ _ _ bytes (omega arith) k
