-- The first slots of the other table are those of its first names.
use Rattle.std.proofs.Common.{◌∙◌}
use Rattle.names.proofs.Writing.{names_copied}
use Rattle.names.proofs.append.Goals as goal

pub returns : goal.returns
returns c = λ names new free room a. c.copy.ensures ∙ names_copied a
