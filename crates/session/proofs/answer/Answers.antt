-- The batch is run on zeros, which are an empty book, and its records are listed.
use Rattle.std.proofs.Common.{◌≡◌, ◌∙◌, subst, ℕ, rules}
use Rattle.std.proofs.lemmas.List.{length-replicate}
use Rattle.batch.specs.Run.{stop_of}
use Rattle.session.proofs.Answering.{Came, came, answered}
use Rattle.session.proofs.answer.Goals as goal

pub returns : goal.returns
returns c =
    let number : stop_of c.run-ended.result.stop ≡ c.map_or-stop.result = search rules in
    let h = subst (λ (k : ℕ). Came c.args.cells.now c.run-ended.new.output k c.run-ended.result.used c.run-ended.result.written) number
    (came c.empty.ensures c.run-ended.ensures.runs) in
    answered h (c.run-ended.auto.output ∙ length-replicate {A = ℕ} 4096 0) c.requires c.put_listing.ensures
