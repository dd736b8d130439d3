-- The bytes are in the buffer that was lent.
use Rattle.std.proofs.Common.{rules}
use Rattle.tokens.proofs.Steps.{in_buffer}
use Rattle.tokens.proofs.token.Goals as goal

pub returns : goal.returns
returns c = in_buffer c.bare_or_quoted-end.ensures.is (search rules)
