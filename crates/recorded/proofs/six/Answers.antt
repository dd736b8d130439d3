-- Six words or-ed together are zero only if each is.
use Rattle.recorded.proofs.Moving.{all_six}
use Rattle.recorded.proofs.six.Goals as goal

pub returns : goal.returns
returns c = all_six c.args.words.now c.requires
