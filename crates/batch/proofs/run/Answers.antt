-- The check decides; what passes is run. A batch of one cell is its own first cell.
use Rattle.std.proofs.Common.{subst, List, ℕ, arith}
use lib.Seq.{take_all}
use Rattle.batch.specs.Run.{stop_of}
use Rattle.batch.specs.Promises.{Ran, ran}
use Rattle.batch.specs.Stopping.{Because}
use Rattle.batch.proofs.run.Goals as goal

pub returns-then-commands-eq1-clause-runs : goal.returns-then-commands-eq1-clause-runs
returns-then-commands-eq1-clause-runs c =
    ran (c.passes.ensures.yes c.if-not-passes.false)
    (subst (λ (cells : List ℕ). Ran c.args.book.now c.run_commands.new.book cells c.args.output.now c.run_commands.new.output (stop_of c.run_commands.result.stop) c.run_commands.result.used c.run_commands.result.written)
    (take_all 1 c.args.commands.now (omega (arith, c.if-commands-eq1.true)))
    c.run_commands.ensures.ran)

pub returns-then-commands-eq1-clause-why : goal.returns-then-commands-eq1-clause-why
returns-then-commands-eq1-clause-why c =
    subst (λ (cells : List ℕ). Because cells c.run_commands.result.used c.run_commands.result.stop)
    (take_all 1 c.args.commands.now (omega (arith, c.if-commands-eq1.true))) c.run_commands.ensures.why
