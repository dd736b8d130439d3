-- Each way out is one case of the definition.
use Rattle.std.proofs.Common.{sym, ◌∙◌}
use Rattle.text.proofs.Beginning.{name_opens, name_alone}
use Rattle.text.proofs.shape.opening.Goals as goal

pub returns-then-first-eq40 : goal.returns-then-first-eq40
returns-then-first-eq40 c = name_opens _ c.args.at c.requires _ c.gap-open.ensures (sym c.first.ensures ∙ c.if-first-eq40.true)

pub returns-else-first-eq40 : goal.returns-else-first-eq40
returns-else-first-eq40 c = name_alone _ c.args.at c.requires _ c.gap-open.ensures (λ f. c.if-first-eq40.false (c.first.ensures ∙ f))
