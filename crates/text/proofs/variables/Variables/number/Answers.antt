-- A variable that is known has its place among the words; a new one is put behind them.
use Rattle.std.proofs.Common.{◌≡◌, length, refl, arith}
use Rattle.text.specs.Leaves.{known_words}
use Rattle.text.proofs.Numbering.{variable_over, variable_old, variable_new}
use Rattle.text.proofs.Words.{known_many, known_more}
use Rattle.text.proofs.variables.Variables.number.Goals as goal

pub returns-in-Some-clause-is : goal.returns-in-Some-clause-is
returns-in-Some-clause-is c =
    let v = c.args.self.now in
    let room : length v.words ≡ 16 = v.room in
    let many = known_many v.words v.known (omega arith) in
    λ names.
    variable_old names (known_words v) c.args.word.now _ refl (omega arith) _ c.in-Some.ensures.is (omega (arith, c.in-Some.ensures.within))

pub returns-then-number-eq-VARIABLES-clause-is : goal.returns-then-number-eq-VARIABLES-clause-is
returns-then-number-eq-VARIABLES-clause-is c =
    λ names. variable_over names (known_words c.args.self.now) c.args.word.now _ refl (omega (arith, c.in_default.ensures.is))

pub returns-clause-is : goal.returns-clause-is
returns-clause-is c =
    let v = c.args.self.now in
    let room : length v.words ≡ 16 = v.room in
    let many = known_many v.words v.known (omega arith) in
    let more = known_more v.words v.known c.args.word (omega arith) in
    λ names. variable_new names (known_words v) c.args.word.now _ more _ (omega arith) c.in_default.ensures.is (omega arith)
