-- The buffer has the token's bytes where they are a name, and else 32 bytes or bytes that are none.
use Rattle.text.proofs.Numbering.{part_name, part_none, name_refused, name_numbered}
use Rattle.text.proofs.naming.number_name.Goals as goal

pub returns-then-not-is_name-clause-is : goal.returns-then-not-is_name-clause-is
returns-then-not-is_name-clause-is c =
    λ names words arity g. name_refused names words _ arity (part_none _ _ _ c.token-size.ensures.keeps (c.is_name.ensures.no c.if-not-is_name.true)) g

pub returns-clause-is : goal.returns-clause-is
returns-clause-is c =
    let n = c.is_name.ensures.yes c.if-not-is_name.false in
    let same = part_name _ _ _ c.token-size.ensures.keeps n in
    λ names words arity g. name_numbered names words _ arity _ same n (c.enter_name.ensures.is names g)
