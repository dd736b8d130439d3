use Rattle.std.proofs.Common.{◌∙◌, ◌≤◌, arith, length}
use Rattle.listing.specs.Listing.{cells_in}
use Rattle.listing.proofs.Pairing.{one_made, no_pair, no_cell}
use Rattle.listing.proofs.read_cells.Goals as goal

pub returns-in_default : goal.returns-in_default
returns-in_default c = no_pair c.loop-i.rest.now _ c.loop-i.i c.in_default.ensures.cases ∙ c.loop-i.invariant

pub loop-i-preserved : goal.loop-i-preserved
loop-i-preserved c =
    let pair = c.in-Some.ensures.cases in
    let some : 2 ≤ length c.loop-i.rest.now = omega (arith, pair.2) in
    one_made c.loop-i.rest.now _ _ c.loop-i.cells c.loop-i.i _ some pair.0 pair.1 c.from_be_bytes.ensures ∙ c.loop-i.invariant

pub returns : goal.returns
returns c = no_cell _ c.loop-i.i (cells_in c.loop-i.rest.now) (omega arith) ∙ c.loop-i.invariant
