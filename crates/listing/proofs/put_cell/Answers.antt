-- The library's hex digits are those of the definition.
use Rattle.std.proofs.Common.{◌≡◌, ◌∙◌, ◌*◌, ap, arith, length, rules}
use Rattle.writing.specs.Texts.{then, these}
use Rattle.hex.specs.Hex.{encode_lower}
use Rattle.listing.specs.Hex.{hexed}
use Rattle.listing.proofs.put_cell.Goals as goal

pub returns : goal.returns
returns c =
    let pair : 4 ≡ 2 * length c.to_be_bytes.result = omega (arith, ap length c.to_be_bytes.ensures) in
    let hex : c.encode_to_slice.new.output ≡ encode_lower c.to_be_bytes.result = search rules in
    then c.put.ensures (these (hex ∙ ap encode_lower c.to_be_bytes.ensures ∙ hexed c.args.cell (omega arith)) c.put-2.ensures)
