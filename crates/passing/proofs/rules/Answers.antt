-- Rule by rule; each that is come to is one less of those left.
use Rattle.std.proofs.Common.{arith}
use Rattle.passing.proofs.Along.{rules_start, no_rule, other_rule, rule_word, one_less, rules_on, rules_over}
use Rattle.passing.proofs.rules.Goals as goal

pub loop-w-init : goal.loop-w-init
loop-w-init c = rules_start c.requires.sizes c.requires.at_hook c.requires.depth_value

pub returns-in_default : goal.returns-in_default
returns-in_default c = no_rule c.loop-w.invariant c.in_default.ensures

pub is_rule-requires-clause-number_value : goal.is_rule-requires-clause-number_value
is_rule-requires-clause-number_value c = rule_word c.loop-w.invariant c.in-Some.ensures c.cell_of-number.ensures

pub returns-then-not-is_rule : goal.returns-then-not-is_rule
returns-then-not-is_rule c = other_rule c.loop-w.invariant c.is_rule.ensures c.if-not-is_rule.true

pub returns-then-at-eq0 : goal.returns-then-at-eq0
returns-then-at-eq0 c =
    rules_over c.loop-w.invariant c.in-Some.ensures c.is_rule.ensures c.if-not-is_rule.false c.next_of.ensures c.if-at-eq0.true

pub loop-w-smaller : goal.loop-w-smaller
loop-w-smaller c = omega (arith, one_less c.loop-w.invariant c.in-Some.ensures c.is_rule.ensures c.if-not-is_rule.false)

pub loop-w-preserved : goal.loop-w-preserved
loop-w-preserved c =
    rules_on c.loop-w.invariant c.in-Some.ensures c.is_rule.ensures c.if-not-is_rule.false c.enter_rule.auto.left
    c.cell_of-number.ensures c.next_of.ensures c.if-at-eq0.false
