-- An upper first byte is a variable's, another a name's. Where reading goes on after a variable its word ends.
use Rattle.std.proofs.Common.{List, ℕ, sym, ap, subst, ◌∙◌}
use Rattle.tokens.specs.Bytes.{is_upper_byte}
use Rattle.text.specs.Term.{variable}
use Rattle.text.specs.Naming.{number_of}
use Rattle.text.specs.Leaves.{known_words, NumbersVariable}
use Rattle.text.proofs.Words.{upper_left, word_is}
use Rattle.text.proofs.Numbering.{numbers_variable, numbers_name}
use Rattle.text.proofs.naming.number_token.Goals as goal

pub returns-then-is_upper-clause-is : goal.returns-then-is_upper-clause-is
returns-then-is_upper-clause-is c =
    let upper = ap is_upper_byte (sym c.first.ensures) ∙ sym c.if-is_upper.ensures in
    λ on names token after shape s g.
    let word = word_is _ c.args.at c.args.after c.requires.within.1 (upper_left _ c.args.at c.args.after upper (on upper)) in
    let known = known_words c.args.variables.now in
    numbers_variable _ c.args.at known _ _ _ _ _ names token after shape _ upper
    (subst (λ (w : List ℕ). NumbersVariable (known_words c.number.new.self) (number_of names known (variable w)) c.number.result) word (c.number.ensures.is names)) s g

pub returns-else-is_upper-clause-is : goal.returns-else-is_upper-clause-is
returns-else-is_upper-clause-is c =
    λ on names token after shape s g.
    numbers_name _ c.args.at (known_words c.args.variables.now) _ c.args.fresh.now.table _ c.args.fresh.now.count
    _ names token after shape _ _
    (ap is_upper_byte (sym c.first.ensures) ∙ sym c.if-is_upper.ensures) (λ arity. c.number_name.ensures.is names _ arity g) s
