-- The first two words have the way's cells and the other six are zero, word by word.
use borrow.Author.Tests.{eqb-true}
use Rattle.recorded.proofs.Moving.{plain_short, plain_long}
use Rattle.recorded.proofs.is_plain.Goals as goal

pub returns-then-words-eq0 : goal.returns-then-words-eq0
returns-then-words-eq0 c e ks row kept low deep =
    plain_short _ kept low deep c.if-depth-gt8.false (c.six.ensures c.if-six-ne0.false) c.if-depth-le4.true c.if-words-eq0.true (eqb-true _ _ e)

pub returns-then-words-way : goal.returns-then-words-way
returns-then-words-way c e ks row kept low deep =
    plain_long _ kept low deep c.if-depth-gt8.false (c.six.ensures c.if-six-ne0.false) c.if-depth-le4.false c.if-words-way.true (eqb-true _ _ e)
