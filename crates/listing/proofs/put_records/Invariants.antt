-- The lines of the records in the rest are left.
use Rattle.std.proofs.Common.{◌+◌, ◌≤◌, length}
use Rattle.listing.specs.Listing.{record_lines, records_in}
use Rattle.writing.specs.Texts.{Left}
use Rattle.listing.proofs.put_records.Given as goal

abbrev pub invariant-loop-first : goal.invariant-loop-first
invariant-loop-first l = record {
  few : l.position + length l.rest ≤ length l.records + 1;
  lines : Left l.initial.text l.text (record_lines l.position (records_in l.rest)) (record_lines 1 (records_in l.records));
}

abbrev pub decreases-loop-first : goal.decreases-loop-first
decreases-loop-first l = length l.rest
