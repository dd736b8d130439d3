-- Each turn of the loop is one command of the definition.
use Rattle.std.proofs.Common.{◌≡◌, ◌-◌, length}
use Rattle.batch.proofs.Looping.{Running}
use Rattle.batch.proofs.run_commands.Given as goal

abbrev pub invariant-loop-read : goal.invariant-loop-read
invariant-loop-read l = record {
  running : Running l.fn.book l.book l.commands l.fn.output l.output l.used l.written;
  marks : length l.marks ≡ 65;
}

abbrev pub decreases-loop-read : goal.decreases-loop-read
decreases-loop-read l = length l.commands - l.used
