-- A slot written over the first free one is `put`.
use Rattle.std.proofs.Common.{◌∙◌}
use Rattle.names.proofs.Writing.{written_put}
use Rattle.names.proofs.add.Goals as goal

pub returns : goal.returns
returns c = λ names free h count room. c.write.ensures ∙ written_put h c.args.name.now c.requires.1 room c.args.held count
