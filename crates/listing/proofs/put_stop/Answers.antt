-- The parts of the line, one after another.
use Rattle.writing.specs.Texts.{then}
use Rattle.listing.proofs.put_stop.Goals as goal

pub returns : goal.returns
returns c =
    then (then (then (then (then (then c.put.ensures c.put_decimal.ensures) c.put-2.ensures) c.put_decimal-2.ensures) c.put-3.ensures) c.put_decimal-3.ensures) c.put-4.ensures
