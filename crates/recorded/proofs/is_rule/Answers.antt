-- Test by test, as the rule's conditions stand.
use Rattle.std.proofs.Common.{◌∙◌, arith}
use Rattle.book.specs.Looking.{rule_number}
use Rattle.recorded.proofs.Ruling.{rule_high, rule_lost, rule_long, rule_is}
use Rattle.recorded.proofs.is_rule.Goals as goal
use Rattle.recorded.proofs.is_rule.Goals.{then-from-r-via-then-from-r, then-from-r-via-else-from-r+then-m-at}

pub returns-then-number-ge-NUMBERS : goal.returns-then-number-ge-NUMBERS
returns-then-number-ge-NUMBERS c = rule_high (c.requires.number_value ∙ rule_number _ _ c.requires.r_low) c.if-number-ge-NUMBERS.true

pub returns-then-from-r : goal.returns-then-from-r
returns-then-from-r c =
    elim c.then-from-r.branch [
      | then-from-r-via-then-from-r b ↦
          rule_lost (c.requires.number_value ∙ rule_number _ _ c.requires.r_low) (c.from.ensures ∙ c.field-place.ensures) b.if-from-r.true
      | then-from-r-via-else-from-r+then-m-at b ↦ rule_long b.if-m-at.true
    ]

pub returns : goal.returns
returns c =
    rule_is (c.requires.number_value ∙ rule_number _ _ c.requires.r_low) (c.from.ensures ∙ c.field-place.ensures)
    c.if-number-ge-NUMBERS.false c.if-from-r.false c.if-m-at.false (omega arith) c.is_record.ensures
