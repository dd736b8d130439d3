-- A slot that can't be added to those that the names so far are written in shows that no names are.
use Rattle.std.proofs.Common.{refl, arith, rules, length-take, length-drop}
use Rattle.names.specs.Leaves.{Used}
use Rattle.names.proofs.Indexing.{indexed_none, indexed_more}
use Rattle.names.proofs.Running.{slot_here, broken_slot, broken_twice, size_short, bucket_here, new_name, found_twice, found_none, begins_more, begins_none, ends_full}
use Rattle.names.proofs.checking.used_slots.Goals as goal

pub slice_bounds-fill-end-2 : goal.slice_bounds-fill-end-2
slice_bounds-fill-end-2 c = omega (arith, length-take 1024 c.args.index.now)

pub loop-slot-init : goal.loop-slot-init
loop-slot-init c = (begins_none _, indexed_none _ _ c.fill.new.self c.requires.2 (c.fill.ensures.after (λ y e. e)))

pub returns-then-not-is_used : goal.returns-then-not-is_used
returns-then-not-is_used c =
    broken_slot c.args.table.now c.loop-slot.slot _ c.from-size.ensures c.if-size-eq0.false (c.is_used.ensures.no c.if-not-is_used.true)

-- Once a slot is found to be used, its length is below 32.
pub slice_bounds-name-end : goal.slice_bounds-name-end
slice_bounds-name-end c =
    let short = size_short c.args.table.now c.loop-slot.slot _ c.from-size.ensures c.if-size-eq0.false (c.is_used.ensures.yes c.if-not-is_used.false) in
    omega arith

pub find-requires : goal.find-requires
find-requires c =
    let short = size_short c.args.table.now c.loop-slot.slot _ c.from-size.ensures c.if-size-eq0.false (c.is_used.ensures.yes c.if-not-is_used.false) in
    (c.bucket-h.ensures.0, simp (length-take, length-drop) (omega arith))

pub returns-then-is_some : goal.returns-then-is_some
returns-then-is_some c =
    let twice = found_twice _ _ _ _ c.find.ensures (search rules) in
    broken_twice c.args.table.now c.loop-slot.slot _ c.from-size.ensures c.if-size-eq0.false (c.is_used.ensures.yes c.if-not-is_used.false)
    twice.0 twice.1 twice.2

pub loop-slot-preserved : goal.loop-slot-preserved
loop-slot-preserved c =
    let t = c.args.table.now in
    let s = c.loop-slot.slot in
    let first = c.from-size.ensures in
    let some = c.if-size-eq0.false in
    let u : Used (slot_here c.args.table.now c.loop-slot.slot) = c.is_used.ensures.yes c.if-not-is_used.false in
    let b = c.loop-slot.invariant.0 in
    let missing = new_name t s _ first some u b (found_none _ _ _ _ c.find.ensures (search rules)) in
    let here = bucket_here t s _ first some u c.bucket-h.result c.bucket-h.ensures.0 in (
      begins_more t s _ first some u b missing,
      indexed_more t c.loop-slot.index s c.bucket-h.result c.loop-slot.invariant.1 (omega arith) (omega arith) c.bucket-h.ensures.1 here _ refl,
    )

pub returns : goal.returns
returns c = ends_full _ _ _ _ (omega arith) (omega arith) c.loop-slot.invariant.0 c.loop-slot.invariant.1
