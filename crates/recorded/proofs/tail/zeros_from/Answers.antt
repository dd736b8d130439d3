-- The word of `from` first, and then the words behind it.
use Rattle.std.proofs.Common.{◌≡◌, ◌+◌, ◌/◌, ℕ, arith, rules, tests, length-drop, ◌∙◌, drop}
use borrow.Author.Tests.{eqb-true}
use Rattle.std.proofs.lemmas.List.{take_all}
use Rattle.std.proofs.lemmas.Iterator.{cases_from_all, YieldsList-from_slice}
use Rattle.deciding.specs.Deciding.{decided}
use Rattle.recorded.proofs.Behind.{clear_past, first_decides, rest_decides}
use Rattle.recorded.proofs.tail.zeros_from.Goals as goal

pub returns-then-first-ge-TERM_WORDS : goal.returns-then-first-ge-TERM_WORDS
returns-then-first-ge-TERM_WORDS c = decided (clear_past c.args.words.now c.args.from (omega arith))

pub returns-then-words-first-eq0 : goal.returns-then-words-first-eq0
returns-then-words-first-eq0 c =
    let behind = drop (c.args.from / 4 + 1) c.args.words.now in
    rest_decides c.args.words.now c.args.from c.if-words-first-eq0.true (λ k. (c.type_inv.words k).fits) c.all.result
    (cases_from_all _ _ _ (λ (w : ℕ). w ≡ 0) (λ (w : ℕ). ¬ (w ≡ 0)) c.all.ensures.ran
    (YieldsList-from_slice behind (c.iter.ensures.rest ∙ take_all _ behind (omega (arith, length-drop (c.args.from / 4 + 1) c.args.words.now))))
    (λ x q k. search (rules, tests)) (λ x q k. search (rules, tests)))

pub returns-else-words-first-eq0 : goal.returns-else-words-first-eq0
returns-else-words-first-eq0 c = record {
  yes = λ e. absurd (c.if-words-first-eq0.false (eqb-true _ _ e));
  no = λ e. first_decides c.args.words.now c.args.from (c.type_inv.words _).fits c.if-words-first-eq0.false;
}
