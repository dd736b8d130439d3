-- Each way out is one case of the definition.
use Rattle.std.proofs.Common.{rules}
use Rattle.text.proofs.Beginning.{after_comma, after_close, after_none}
use Rattle.text.proofs.shape.follow.Goals as goal

pub returns-in-44 : goal.returns-in-44
returns-in-44 c = after_comma _ c.args.at _ _ c.gap-next.ensures c.first.ensures c.in-44.is

pub returns-in-41 : goal.returns-in-41
returns-in-41 c = after_close _ c.args.at _ _ c.gap-next.ensures c.first.ensures c.in-41.is

pub returns-in_default : goal.returns-in_default
returns-in_default c = after_none _ c.args.at _ _ c.gap-next.ensures c.first.ensures (search rules) (search rules)
