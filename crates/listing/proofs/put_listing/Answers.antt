-- The header, the lines of the records, the stop line.
use Rattle.std.proofs.Common.{arith, rules}
use Rattle.listing.specs.Listing.{listing}
use Rattle.writing.specs.Texts.{then}
use Rattle.listing.specs.Promises.{Lists, lists}
use Rattle.listing.proofs.put_listing.Goals as goal

pub returns : goal.returns
unfolding listing
returns c =
    let all : Lists c.args.records.now c.args.text.now c.put_stop.new.text.bytes.now c.args.stop c.args.used c.put_stop.new.text.at =
    lists {cells = c.args.records.now} (λ i. omega (arith, c.type_inv.records i)) (omega (arith, c.ranges.stop)) (omega (arith, c.ranges.used))
    (then (then c.put.ensures c.put_records.ensures) c.put_stop.ensures).puts in
    search rules
