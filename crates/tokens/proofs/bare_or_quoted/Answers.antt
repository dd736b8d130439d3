-- A quote at the first byte opens a name; what is left after it is the text from the next byte on.
use Rattle.std.proofs.Common.{sym, ◌∙◌}
use Rattle.tokens.proofs.Steps.{token_quoted, token_bare}
use Rattle.tokens.proofs.bare_or_quoted.Goals as goal

pub returns-then-first-eq39-clause-is : goal.returns-then-first-eq39-clause-is
returns-then-first-eq39-clause-is c =
    rw (token_quoted c.args.text.now c.args.at (sym c.first.ensures ∙ c.if-first-eq39.true)) c.quoted.ensures.is

pub returns-else-first-eq39-clause-is : goal.returns-else-first-eq39-clause-is
returns-else-first-eq39-clause-is c = rw (token_bare _ (λ e. c.if-first-eq39.false (c.first.ensures ∙ e))) c.bare.ensures.is
