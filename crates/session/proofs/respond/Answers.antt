-- The input is bad in either case, or its cells are answered.
use Rattle.std.proofs.Common.{◌≡◌, ap, ◌∙◌, ℕ, arith, replicate}
use Rattle.std.proofs.lemmas.List.{length-replicate}
use Rattle.writing.specs.Writing.{stand}
use Rattle.listing.specs.Listing.{bad_input}
use Rattle.session.specs.Session.{answer, session}
use Rattle.session.proofs.Responding.{too_long, odd, good, read, stands_as}
use Rattle.session.proofs.respond.Goals.{then-input-gt8192-via-then-input-gt8192, then-input-gt8192-via-else-input-gt8192+then-input-ne0}
use Rattle.session.proofs.respond.Goals as goal

pub returns-then-input-gt8192 : goal.returns-then-input-gt8192
returns-then-input-gt8192 c =
    let room = c.requires in
    let bad : bad_input ≡ session c.args.input.now = elim c.then-input-gt8192.branch [
      | then-input-gt8192-via-then-input-gt8192 w ↦ (let long = w.if-input-gt8192.true in too_long c.args.input.now (omega arith))
      | then-input-gt8192-via-else-input-gt8192+then-input-ne0 w ↦ (
          let few = w.if-input-gt8192.false in
          let uneven = w.if-input-ne0.true in
          odd c.args.input.now (omega arith) (λ e. omega arith)
          )
    ] in
    stands_as bad (stand (omega arith) c.put_bytes.ensures)

pub returns : goal.returns
returns c =
    let few = c.if-input-gt8192.false in
    let even = c.if-input-ne0.false in
    let cells = read c.args.input.now (replicate 4096 0) _ (omega arith) (length-replicate {A = ℕ} 4096 0) c.read_cells.ensures in
    stands_as (ap answer cells ∙ good c.args.input.now (omega arith) (omega arith)) c.answer.ensures
