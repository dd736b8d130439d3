-- The number is held where all three tests pass.
use Rattle.std.proofs.Common.{◌≡◌, sym, ap, ap₂, ◌∙◌, le-ltb, get_or, take, drop}
use Rattle.std.specs.Bool.{then_some}
use Rattle.deciding.specs.Deciding.{true_not_false}
use Rattle.layout.specs.Layout.{rules_limit, places_at, place_words}
use Rattle.bits.specs.Packed.{fields}
use Rattle.book.specs.Memory.{view, held_at}
use Rattle.book.specs.Looking.{too_high, not_taken, same_number}
use Rattle.book.proofs.place_of.Goals.{After-then_some, then-r-lt-RULES, else-r-lt-RULES, then-is_marked, else-is_marked}
use Rattle.book.proofs.place_of.Goals as goal

-- the place as it is read
read : (c : After-then_some) → c.from-r.result ≡ (view c.args.m.now).place c.args.number
read c = c.from-r.ensures ∙ c.field.ensures ∙ ap (λ k. get_or (fields (take place_words (drop places_at c.args.m.now))) k 0) c.from.ensures

tested : (c : After-then_some) → c.if-is_marked.held ≡ held_at (view c.args.m.now) c.args.number
tested c =
    let ws = c.args.m.now in
    let k = c.args.number in
    let r = c.from-r.result in
    elim c.if-r-lt-RULES.branch [
      | then-r-lt-RULES w ↦ elim c.if-is_marked.branch [
        | then-is_marked v ↦ v.held-is ∙ same_number ws k r (read c) w.if-r-lt-RULES.true w.is_marked.result w.is_marked.ensures
            (sym w.value-is ∙ v.if-is_marked.true) v.cell_of.result v.from-then-is_marked.result v.cell_of.ensures v.from-then-is_marked.ensures
        | else-is_marked v ↦ v.held-is ∙ v.if-is_marked.false ∙ not_taken ws k r (read c) w.if-r-lt-RULES.true w.is_marked.result w.is_marked.ensures
            (sym w.value-is ∙ v.if-is_marked.false)
      ]
      | else-r-lt-RULES w ↦ elim c.if-is_marked.branch [
        | then-is_marked v ↦ absurd (true_not_false (sym w.value-is ∙ v.if-is_marked.true) (le-ltb r rules_limit w.if-r-lt-RULES.false))
        | else-is_marked v ↦ v.held-is ∙ v.if-is_marked.false ∙ too_high ws k r (read c) w.if-r-lt-RULES.false
      ]
    ]

pub returns-clause-place : goal.returns-clause-place
returns-clause-place c = c.then_some.ensures ∙ ap₂ then_some (tested c) (read c)
