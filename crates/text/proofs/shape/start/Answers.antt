-- Each way out is one case of the definition.
use Rattle.std.proofs.Common.{◌≡◌, ◌<◌, sym, drop, arith}
use Rattle.std.proofs.lemmas.Result.{err_from_is_err_and}
use Rattle.tokens.specs.Tokens.{token}
use Rattle.text.proofs.Beginning.{start_none, start_eighth, start_full, start_variable, start_name, start_broken}
use Rattle.text.proofs.shape.start.Goals as goal

pub returns-then-not-begins-clause-is : goal.returns-then-not-begins-clause-is
returns-then-not-begins-clause-is c = start_none _ c.args.at _ c.args.from _ c.requires.0 c.first-byte.ensures c.if-not-begins.ensures

pub returns-then-argument-eq8-clause-is : goal.returns-then-argument-eq8-clause-is
returns-then-argument-eq8-clause-is c =
    start_eighth _ c.args.at _ c.args.from _ c.requires.0 c.first-byte.ensures c.if-not-begins.ensures c.if-argument-eq8.true

pub returns-then-from-eq-CELLS-clause-is : goal.returns-then-from-eq-CELLS-clause-is
returns-then-from-eq-CELLS-clause-is c =
    start_full _ c.args.at _ c.args.from _ c.requires.0 c.first-byte.ensures c.if-not-begins.ensures c.if-argument-eq8.false c.if-from-eq-CELLS.true

pub returns-in_err-after-clause-is : goal.returns-in_err-after-clause-is
returns-in_err-after-clause-is c =
    let room : c.args.from < 32 = omega arith in
    let t = rw c.in_err-after.was at c.token.ensures in
    let p = err_from_is_err_and c.from_residual.result c.from_residual.ensures.1 in
    rw (p.1, p.2)
    (start_broken _ c.args.at _ c.args.from _ c.requires.0 c.first-byte.ensures c.if-not-begins.ensures c.if-argument-eq8.false room _ t.fault_is t.left)

pub returns-then-is_upper-clause-is : goal.returns-then-is_upper-clause-is
returns-then-is_upper-clause-is c =
    let room : c.args.from < 32 = omega arith in
    start_variable _ c.args.at _ c.args.from _ c.requires.0 c.first-byte.ensures c.if-not-begins.ensures c.if-argument-eq8.false
    room c.if-is_upper.ensures _ (rw c.in_ok-after.was at c.token.ensures.left)

pub returns-clause-is : goal.returns-clause-is
returns-clause-is c =
    let room : c.args.from < 32 = omega arith in
    let fine : 0 ≡ (token (drop c.args.at c.args.text.now)).fault = rw c.in_ok-after.was at c.token.ensures.fault_is in
    let left = rw c.in_ok-after.was at c.token.ensures.left in
    start_name _ c.args.at _ c.args.from _ c.requires.0 c.first-byte.ensures c.if-not-begins.ensures c.if-argument-eq8.false
    room c.if-is_upper.ensures _ (sym fine) c.opening.ensures.bare (c.opening.ensures.opening _ (sym fine) left.rest_is)
