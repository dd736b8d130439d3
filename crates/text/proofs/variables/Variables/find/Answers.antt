-- A word's number is its place among the words that are known.
use Rattle.std.proofs.Common.{◌≡◌, length, take, length-take-le, arith, rules, tests}
use Rattle.std.proofs.lemmas.Iterator.{YieldsList-from_slice}
use Rattle.std.proofs.lemmas.Iterator.Search.{position_from_yields_List}
use Rattle.std.specs.Str.{bytes_eq}
use Rattle.text.proofs.Words.{slot_is, or_length}
use Rattle.text.proofs.variables.Variables.find.Goals as goal

pub returns-clause-is : goal.returns-clause-is
returns-clause-is c =
    let v = c.args.self.now in
    let xs = take v.known v.words in
    let e = position_from_yields_List (λ w. bytes_eq w.now c.args.word.now) _ _ c.position.result c.position.ensures.ran
    (YieldsList-from_slice xs cc) (λ x b q k. search (rules, tests)) in
    let room : length v.words ≡ 16 = v.room in
    let many : length xs ≡ v.known = length-take-le v.known v.words (omega arith) in
    rw (slot_is c.args.word.now xs, e) (or_length (λ w. bytes_eq w.now c.args.word.now) xs v.known many)
