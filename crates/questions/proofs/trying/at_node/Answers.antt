-- A link is none exactly where it is 0.
use Rattle.questions.specs.Promises.{no_node, its_node}
use Rattle.questions.proofs.trying.at_node.Goals as goal

pub returns-then-w-eq0 : goal.returns-then-w-eq0
returns-then-w-eq0 c = no_node c.if-w-eq0.true

pub returns : goal.returns
returns c = its_node c.if-w-eq0.false
