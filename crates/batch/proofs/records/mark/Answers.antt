-- A search over no marks leaves those of the rules that answer.
use Rattle.questions.specs.Listing.{asked}
use Rattle.batch.proofs.Doing.{marked}
use Rattle.batch.proofs.records.mark.Goals as goal

pub returns-clause-marked : goal.returns-clause-marked
returns-clause-marked c =
    marked _ _ _ _ _ (asked c.args.fills_question c.args.fills_rule c.args.book.now c.args.question.now _ _ c.empty.ensures.none c.mark_answers.ensures) c.requires.passing
