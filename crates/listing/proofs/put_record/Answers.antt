-- The parts of the line, one after another.
use Rattle.std.proofs.Common.{ap, arith}
use Rattle.std.proofs.Math.ListN.{drop_of_length-le}
use Rattle.listing.specs.Listing.{hex_cells}
use Rattle.writing.specs.Putting.{one_more}
use Rattle.writing.specs.Texts.{then, all_left, some_put, none_left}
use Rattle.listing.proofs.put_record.Goals as goal

pub loop-cell-init : goal.loop-cell-init
loop-cell-init c = all_left

pub loop-cell-preserved : goal.loop-cell-preserved
unfolding hex_cells
loop-cell-preserved c =
    some_put _ (ap hex_cells (one_more c.args.cells.now c.loop-cell.cell-index (omega arith))) c.loop-cell.invariant c.put_cell.ensures

pub returns : goal.returns
unfolding hex_cells
returns c =
    let cells = none_left (ap hex_cells (drop_of_length-le _ c.loop-cell-test.false)) c.loop-cell.invariant in
    then (then (then (then (then (then c.put_decimal.ensures c.put.ensures) c.put_decimal-2.ensures) c.put-2.ensures) c.put_decimal-3.ensures) cells) c.put-3.ensures
