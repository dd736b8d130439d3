-- Each turn of the loop is one command of the definition.
use Rattle.std.proofs.Common.{sym, ap, ◌∙◌, ◌+◌, ◌≤◌, length, rules, Some}
use Rattle.batch.specs.Stopping.{no_refusal, no_room, refused_so}
use Rattle.batch.proofs.Looping.{read_is, none_left, turn, finished, ends_10, ends_with, fits_in, used_up, again}
use Rattle.batch.proofs.run_commands.Goals as goal

pub do_command-requires-clause-read : goal.do_command-requires-clause-read
do_command-requires-clause-read c = read_is c.args.commands.now c.loop-read.used c.in-Some.read (sym c.read_command.ensures ∙ c.in-Some.is)

pub returns-in_default-do_command-clause-ran : goal.returns-in_default-do_command-clause-ran
returns-in_default-do_command-clause-ran c =
    ends_10 (turn c.loop-read.invariant.running (sym c.read_command.ensures ∙ c.in-Some.is) c.do_command.ensures c.do_command.auto.out) c.in_default-do_command.is

pub overflow_add-written : goal.overflow_add-written
overflow_add-written c =
    let h : c.loop-read.written + c.in-Some-do_command.n ≤ length c.loop-read.output =
    fits_in (turn c.loop-read.invariant.running (sym c.read_command.ensures ∙ c.in-Some.is) c.do_command.ensures c.do_command.auto.out) c.in-Some-do_command.is in
    let l = c.loop-read.invariant.running.long in
    search rules

pub overflow_add-used : goal.overflow_add-used
overflow_add-used c =
    let h = used_up (turn c.loop-read.invariant.running (sym c.read_command.ensures ∙ c.in-Some.is) c.do_command.ensures c.do_command.auto.out) c.in-Some-do_command.is c.in-Ok.is in
    search rules

pub overflow_add-used-in-Ok : goal.overflow_add-used-in-Ok
overflow_add-used-in-Ok c =
    let h = used_up (turn c.loop-read.invariant.running (sym c.read_command.ensures ∙ c.in-Some.is) c.do_command.ensures c.do_command.auto.out) c.in-Some-do_command.is c.in-Ok.is in
    search rules

pub loop-read-preserved : goal.loop-read-preserved
loop-read-preserved c = record {
  running = again (turn c.loop-read.invariant.running (sym c.read_command.ensures ∙ c.in-Some.is) c.do_command.ensures c.do_command.auto.out) c.in-Some-do_command.is c.in-Ok.is;
  marks = c.do_command.auto.marks ∙ c.loop-read.invariant.marks;
}

pub returns-in-Err-clause-ran : goal.returns-in-Err-clause-ran
returns-in-Err-clause-ran c =
    ends_with (turn c.loop-read.invariant.running (sym c.read_command.ensures ∙ c.in-Some.is) c.do_command.ensures c.do_command.auto.out) c.in-Some-do_command.is _ c.in-Err.is

pub returns-clause-ran : goal.returns-clause-ran
returns-clause-ran c =
    let l = c.loop-read in
    finished c.args.book.now l.book c.args.commands.now c.args.output.now l.output l.used l.written l.invariant.running
    (none_left c.args.commands.now l.used (sym c.read_command.ensures ∙ c.in_default.is))

pub returns-in_default-do_command-clause-why : goal.returns-in_default-do_command-clause-why
returns-in_default-do_command-clause-why c = no_room c.args.commands.now c.loop-read.used

pub returns-in-Err-clause-why : goal.returns-in-Err-clause-why
returns-in-Err-clause-why c =
    refused_so c.args.commands.now c.loop-read.used c.in-Err.refused
    (sym c.read_command.ensures ∙ c.in-Some.is ∙ ap Some c.in-Err.is)

pub returns-clause-why : goal.returns-clause-why
returns-clause-why c = no_refusal c.args.commands.now c.loop-read.used
