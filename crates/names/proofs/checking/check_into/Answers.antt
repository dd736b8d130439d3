-- A passing table has a right length; its used slots end where its names do, and the rest decides.
use Prim.{tt}
use Rattle.std.proofs.Common.{refl, subst, arith}
use Rattle.names.specs.Table.{Passes}
use Rattle.names.specs.Leaves.{Runs, Ends}
use Rattle.names.proofs.Running.{length_is, counts, broken_rest}
use Rattle.names.proofs.checking.check_into.Goals as goal
use Rattle.names.proofs.checking.check_into.Goals.{then-table-ne0-via-then-table-ne0, then-table-ne0-via-else-table-ne0+then-slots-eq0, then-table-ne0-via-else-table-ne0+else-slots-eq0+then-slots-gt-SLOTS}

pub returns-then-table-ne0 : goal.returns-then-table-ne0
returns-then-table-ne0 c =
    let wrong : Passes c.args.table.now → ⊥ =
    λ p. let h = p.holds in
    elim c.then-table-ne0.branch [
      | then-table-ne0-via-then-table-ne0 w ↦ w.if-table-ne0.true (omega (arith, length_is h))
      | then-table-ne0-via-else-table-ne0+then-slots-eq0 w ↦ omega (arith, length_is h)
      | then-table-ne0-via-else-table-ne0+else-slots-eq0+then-slots-gt-SLOTS w ↦ omega (arith, length_is h)
    ] in
    ((wrong, refl), tt)

pub returns-then-not-all_zero : goal.returns-then-not-all_zero
returns-then-not-all_zero c =
    let ends : Ends c.args.table.now c.used_slots.new.index _ c.in_ok-held.held = subst (Runs c.args.table.now c.used_slots.new.index _) c.in_ok-held.ensures.ok_part c.used_slots.ensures in
    ((broken_rest _ _ _ _ (omega arith) ends (c.all_zero.ensures.no c.if-not-all_zero.true), refl), tt)

pub returns : goal.returns
returns c =
    let ends : Ends c.args.table.now c.used_slots.new.index _ c.in_ok-held.held = subst (Runs c.args.table.now c.used_slots.new.index _) c.in_ok-held.ensures.ok_part c.used_slots.ensures in
    (counts _ _ _ _ (omega arith) ends (omega arith) (omega arith) (c.all_zero.ensures.yes c.if-not-all_zero.false), ends.indexed)
