-- What the search finds among the slots it finds among the names.
use Rattle.names.proofs.Writing.{looked_up}
use Rattle.names.proofs.look_up.Goals as goal

pub returns : goal.returns
returns c = looked_up _ _ _ _ c.find.ensures
