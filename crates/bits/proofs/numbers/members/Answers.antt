-- From 0 on they all come.
use Rattle.std.proofs.Common.{sym, arith}
use Rattle.bits.proofs.Numbering.{coming}
use Rattle.bits.proofs.numbers.members.Goals as goal

pub returns : goal.returns
returns c = sym (coming c.args.map.now 0 (omega arith) c.first.result c.first.ensures)
