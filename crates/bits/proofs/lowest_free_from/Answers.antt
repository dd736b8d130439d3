-- No word passed has a clear bit, and the first set one of `!w` is the first clear one of w
use Rattle.std.proofs.Common.{◌≡◌, ℕ, ◌+◌, ◌*◌, ◌<◌, subst, arith, length}
use Rattle.bits.specs.Packed.{bits, Skipped}
use Rattle.bits.specs.Laws.{length_parts, length_bits}
use Rattle.bits.proofs.Searching.{first_clear, found, passed, none_found}
use Rattle.bits.proofs.lowest_free_from.Goals as goal

pub overflow_add-result : goal.overflow_add-result
overflow_add-result c = let h = c.in-Some.ensures in omega (arith, length_parts)

pub returns-in-Some : goal.returns-in-Some
returns-in-Some c =
    let ws = c.args.map.now in
    let i = c.loop-i.i in
    let h = c.in-Some.ensures in
    let low : c.in-Some.bit < 64 = omega (arith, length_parts) in
    let f = first_clear _ 0 c.in-Some.bit (c.type_inv.map i).fits h.1 in (
      omega (arith, length_bits ws),
      found 0 ws 0 (i * 64) i 0 c.in-Some.bit (omega arith) (omega arith) (omega arith) c.loop-i-test.true c.loop-i.invariant f low,
    )

pub loop-i-preserved : goal.loop-i-preserved
loop-i-preserved c =
    let ws = c.args.map.now in
    let i = c.loop-i.i in
    let f = first_clear _ 0 _ (c.type_inv.map i).fits c.in_default.ensures in
    let e : i * 64 + 64 ≡ (i + 1) * 64 = omega arith in
    subst (λ (k : ℕ). Skipped 0 (bits ws) 0 k) e
    (passed 0 ws 0 (i * 64) i 0 _ (omega arith) (omega arith) (omega arith) c.loop-i-test.true c.loop-i.invariant f (omega (arith, length_parts)))

pub returns : goal.returns
returns c =
    let ws = c.args.map.now in
    none_found 0 ws 0 (length (bits ws)) (omega arith) (length_bits ws)
    (λ k a b. c.loop-i.invariant k a (omega (arith, length_bits ws)))
