-- The slot of a held number says the name: its first byte is the length, and the name stands after it.
use Rattle.std.proofs.Common.{[], ◌<◌, length, get_or, refl, ◌∙◌, arith}
use Rattle.std.proofs.lemmas.Result.{err_from_is_err_and}
use Rattle.names.specs.Calls.{bad_table, no_number, at}
use Rattle.names.specs.Slots.{slot_first}
use Rattle.names.specs.Entering.{slot_holds}
use Rattle.names.proofs.Running.{length_is}
use Rattle.names.proofs.part_of.Goals as goal

pub returns-in_err-counted : goal.returns-in_err-counted
returns-in_err-counted c =
    let p = err_from_is_err_and c.from_residual.result c.from_residual.ensures.1 in
    rw (p.1, p.2, c.in_err-counted.ensures.1) (bad_table c.in_err-counted.ensures.0)

pub returns-then-counted-number : goal.returns-then-counted-number
returns-then-counted-number c = let k = c.in_ok-counted.ensures in no_number k.holds (omega (arith, k.count))

pub bounds-table-at : goal.bounds-table-at
bounds-table-at c = let k = c.in_ok-counted.ensures in omega (arith, k.count, length_is k.holds)

pub returns : goal.returns
returns c =
    let k = c.in_ok-counted.ensures in
    let number = c.args.number in
    let l : number < length k.names = omega (arith, k.count) in
    at k.holds l refl (c.from.ensures ∙ slot_first _ number (get_or k.names number []) (slot_holds k.holds number l))
