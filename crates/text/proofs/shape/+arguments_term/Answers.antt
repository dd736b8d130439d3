-- What one call of a term and of arguments adds to what the calls in it promise.
use Rattle.std.proofs.Common.{◌≡◌, length, refl, arith}
use Rattle.std.proofs.lemmas.Result.{err_from_is_err_and}
use Rattle.text.specs.Leaves.{Alone, Opens, Comma, Close}
use Rattle.text.proofs.Reading.{term_stops, term_alone, term_applies, arguments_stop, arguments_broken, arguments_close, arguments_comma}
use Rattle.text.proofs.shape.+arguments_term.Goals as goal

pub arguments-returns-in_err-end-clause-is : goal.arguments-returns-in_err-end-clause-is
arguments-returns-in_err-end-clause-is t c =
    let p = err_from_is_err_and c.from_residual.result c.from_residual.ensures.1 in
    rw (p.1, p.2) (arguments_stop _ c.args.at _ c.args.before c.args.name _ _ c.requires.1 c.gap-begin.ensures _ _ _ c.term.ensures.is _ c.in_err-end.was)

pub arguments-returns-in_err-next-clause-is : goal.arguments-returns-in_err-next-clause-is
arguments-returns-in_err-next-clause-is t c =
    let p = err_from_is_err_and c.from_residual-in_err-next.result c.from_residual-in_err-next.ensures.1 in
    rw (p.1, p.2)
    (arguments_broken _ c.args.at _ c.args.before c.args.name _ _ c.requires.1 c.gap-begin.ensures _ _ _ c.term.ensures.is _ c.in_ok-end.was _
    (rw c.in_err-next.was at c.follow.ensures))

pub arguments-returns-in-Comma-clause-is : goal.arguments-returns-in-Comma-clause-is
arguments-returns-in-Comma-clause-is t c =
    let size : length c.args.notes.now.all ≡ 32 = c.args.notes.now.room in
    let size₁ : length c.term.new.notes.all ≡ 32 = c.term.new.notes.room in
    let f = rw c.in_ok-next.was at c.follow.ensures in
    arguments_comma _ c.args.at _ c.args.before c.args.name _ _ c.requires.1 c.gap-begin.ensures _ _ _ c.term.ensures.is _ c.in_ok-end.was (Comma c.in-Comma.next)
    (rw c.in-Comma.is at f) refl (omega (arith, c.in_ok-end.ensures.on)) (omega arith) c.requires.2 (omega arith) (omega arith) _ _ _ c.arguments.ensures.is

pub arguments-returns-in-Close-clause-is : goal.arguments-returns-in-Close-clause-is
arguments-returns-in-Close-clause-is t c =
    let f = rw c.in_ok-next.was at c.follow.ensures in
    arguments_close _ c.args.at _ c.args.before c.args.name _ _ c.requires.1 c.gap-begin.ensures _ _ _ c.term.ensures.is _ c.in_ok-end.was (Close c.in-Close.next)
    (rw c.in-Close.is at f) refl

pub term-returns-in_err-shape-clause-is : goal.term-returns-in_err-shape-clause-is
term-returns-in_err-shape-clause-is t c =
    let p = err_from_is_err_and c.from_residual.result c.from_residual.ensures.1 in
    rw (p.1, p.2) (term_stops _ c.args.at _ _ _ _ (rw c.in_err-shape.was at c.start.ensures.is))

pub term-returns-in-Alone-clause-is : goal.term-returns-in-Alone-clause-is
term-returns-in-Alone-clause-is t c =
    let size : length c.args.notes.now.all ≡ 32 = c.args.notes.now.room in
    let f = rw c.in_ok-shape.was at c.start.ensures.is in
    rw (c.push.ensures.0, c.push.ensures.1)
    (term_alone _ c.args.at c.args.argument _ _ (Alone c.in-Alone.shape c.in-Alone.after) (rw c.in-Alone.is at f) size (omega (arith, c.in_ok-shape.ensures.on)) refl)

pub term-returns-in-Opens-clause-is : goal.term-returns-in-Opens-clause-is
term-returns-in-Opens-clause-is t c =
    let size : length c.args.notes.now.all ≡ 32 = c.args.notes.now.room in
    let f = rw c.in_ok-shape.was at c.start.ensures.is in
    let u = rw (c.push-in-Opens.ensures.0, c.push-in-Opens.ensures.1) at c.arguments.ensures.is in
    term_applies _ c.args.at c.args.argument _ _ (Opens c.in-Opens.after) (rw c.in-Opens.is at f) size (omega (arith, c.in_ok-shape.ensures.on)) refl refl _ _ _ u
