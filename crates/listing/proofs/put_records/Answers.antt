use Rattle.std.proofs.Common.{ap, ◌∙◌, arith, min, length}
use Rattle.std.proofs.lemmas.List.{nil_from_length}
use Rattle.listing.specs.Listing.{record_lines, records_by, records_in}
use Rattle.listing.proofs.Taking.{record_at}
use Rattle.writing.specs.Texts.{all_left, some_put, none_left}
use Rattle.listing.proofs.put_records.Goals as goal

pub loop-first-init : goal.loop-first-init
loop-first-init c = record { few = omega arith; lines = all_left }

pub loop-first-preserved : goal.loop-first-preserved
unfolding record_lines
loop-first-preserved c =
    let first = c.in-Some.ensures.cases in
    let cut = c.split_at.ensures in
    let record_is = record_at first.0 (c.min-count.ensures ∙ ap (λ n. min n (length c.in-Some.behind.now)) c.from.ensures) cut.front cut.back c.from-in-Some.ensures in
    record {
      few = omega (arith, first.1, cut.back_len);
      lines = some_put _ (ap (record_lines c.loop-first.position) record_is) c.loop-first.invariant.lines c.put_record.ensures;
    }

pub returns : goal.returns
unfolding record_lines records_by
returns c = none_left (ap (λ l. record_lines c.loop-first.position (records_in l)) (nil_from_length _ c.in_default.ensures.cases)) c.loop-first.invariant.lines
