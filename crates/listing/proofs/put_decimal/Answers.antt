-- The library's decimal digits are those of the definition.
use Rattle.std.proofs.Common.{◌∙◌, arith}
use Rattle.writing.specs.Texts.{these}
use Rattle.listing.specs.Digits.{printed}
use Rattle.listing.proofs.put_decimal.Goals as goal

pub returns : goal.returns
returns c = these (c.as_bytes.ensures.value ∙ c.format.ensures.text ∙ printed c.args.n (omega arith)) c.put.ensures
