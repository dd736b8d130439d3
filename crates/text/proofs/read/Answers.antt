-- A refusal has its number and its place.
use Rattle.text.proofs.read.Goals as goal

pub returns-in-Err : goal.returns-in-Err
returns-in-Err c = rw (c.from.ensures, c.place.ensures) c.in-Err.ensures
