-- Each refusal comes before anything is written; past them the nodes are planted, the rule hangs and the record is put.
use Rattle.std.proofs.Common.{◌≡◌, Result, Err, refl, sym, ap, ◌∙◌, subst, List, ◌∷◌, [], ◌++◌, ℕ, ◌+◌, arith, length, take, drop, length-take}
use Rattle.std.proofs.Math.ListN.{length-map}
use Rattle.std.proofs.lemmas.Result.{err_from_is_err_and}
use Rattle.std.specs.Option.{ok_or}
use Rattle.std.specs.Result.{result_ok}
use Rattle.layout.specs.Layout.{tree_words, sign_words, book_words}
use Rattle.term.specs.Whole.{whole_term}
use Rattle.links.specs.Words.{shape}
use Rattle.tree.specs.Promises.{PlantedOf, Hangable, Hung}
use Rattle.book.specs.declared.NotAdded.{NotAdded}
use Rattle.book.specs.declared.NotAdded.TheVariants.{NoNodes}
use Rattle.book.specs.Rules.{plain}
use Rattle.book.specs.Memory.{form_of}
use Rattle.book.specs.Looking.{tree_long}
use Rattle.change.proofs.Signs.{with_signs, signs_only, written}
use Rattle.change.proofs.Removing.{TreeOnly, tree_only}
use Rattle.change.proofs.Adding.{refused, sound, no_nodes, hangable, taken_now, row_form}
use Rattle.change.proofs.add.Goals as goal

same_err : (x y : NotAdded) → ◌≡◌ {A = Result ℕ NotAdded} (Err x) (Err y) → x ≡ y
same_err x y e = cc

pub returns-in_err-r : goal.returns-in_err-r
returns-in_err-r c =
    let p = err_from_is_err_and c.from_residual.result c.from_residual.ensures.1 in
    rw (p.1, p.2) (refused c.args.m.now c.args.number (plain c.args.term.now) _ c.requires.passing (c.in_err-r.ensures (plain c.args.term.now)))

pub row-row-requires : goal.row-row-requires
row-row-requires c = (whole_term c.args.term.now (length c.args.term.now) c.requires.term).short

form_long : (row t : List ℕ) (k : ℕ) → take (length t + 1) row ≡ form_of t ++ (k ∷ []) → length (take (length t) row) ≡ length t
form_long row t k e = ap length (row_form row t k e) ∙ length-map t _

pub slice_bounds-form-end : goal.slice_bounds-form-end
slice_bounds-form-end c = sym (form_long c.row-row.result c.args.term.now c.args.number c.row-row.ensures)

pub descend-down-requires-clause-sound : goal.descend-down-requires-clause-sound
descend-down-requires-clause-sound c = sound c.args.m.now c.requires.passing

pub plant-requires-clause-sound : goal.plant-requires-clause-sound
plant-requires-clause-sound c = sound c.args.m.now c.requires.passing

pub plant-requires-clause-form_nonzero : goal.plant-requires-clause-form_nonzero
plant-requires-clause-form_nonzero c =
    let whole = whole_term c.args.term.now (length c.args.term.now) c.requires.term in
    omega (arith, form_long c.row-row.result c.args.term.now c.args.number c.row-row.ensures, whole.some)

pub plant-requires-clause-form_len_bound : goal.plant-requires-clause-form_len_bound
plant-requires-clause-form_len_bound c =
    let whole = whole_term c.args.term.now (length c.args.term.now) c.requires.term in
    omega (arith, form_long c.row-row.result c.args.term.now c.args.number c.row-row.ensures, whole.short)

pub returns-in_err-last : goal.returns-in_err-last
returns-in_err-last c =
    let ws = c.args.m.now in
    let form = take (length c.args.term.now) c.row-row.result in
    let none = c.ok_or.ensures.ok_part ∙ ap result_ok c.in_err-last.was in
    let why = same_err _ _ (sym c.in_err-last.was ∙ c.ok_or.ensures.value ∙ ap (λ o. ok_or o NoNodes) none) in
    let p = err_from_is_err_and c.from_residual-in_err-last.result c.from_residual-in_err-last.ensures.1 in
    rw (p.1, p.2, why)
    (no_nodes ws c.args.number (plain c.args.term.now) c.requires.passing c.in_ok-r.r c.in_ok-r.ensures c.requires.term c.requires.number_lt_rule_numbers
    c.plant.new.m 0 form (row_form c.row-row.result c.args.term.now c.args.number c.row-row.ensures)
    (subst (PlantedOf (take tree_words ws) c.plant.new.m form) none c.plant.ensures) refl)

pub hang-requires : goal.hang-requires
hang-requires c =
    let ws = c.args.m.now in
    let form = take (length c.args.term.now) c.row-row.result in
    let planted = subst (PlantedOf (take tree_words ws) c.plant.new.m form) (c.ok_or.ensures.ok_part ∙ ap result_ok c.in_ok-last.was) c.plant.ensures in
    subst (λ (n : ℕ). Hangable c.plant.new.m c.in_ok-last.last c.in_ok-r.r n) (sym c.from.ensures)
    (hangable ws c.args.number (plain c.args.term.now) c.requires.passing c.in_ok-r.r c.in_ok-r.ensures c.requires.term c.requires.number_lt_rule_numbers
    c.plant.new.m c.in_ok-last.last form (row_form c.row-row.result c.args.term.now c.args.number c.row-row.ensures) planted.1 planted.0
    (c.plant.auto.m ∙ tree_long ws c.requires.passing.size))

-- the memory with the rule hung in the tree
hung_only : (ws t₁ t₂ : List ℕ) → length ws ≡ book_words → length t₁ ≡ length (take tree_words ws) → length t₂ ≡ length t₁
    → TreeOnly ws (t₂ ++ drop tree_words ws) (shape t₂)
hung_only ws t₁ t₂ size e f = tree_only ws t₂ size (f ∙ e ∙ tree_long ws size)

pub put_record-requires-clause-m_len : goal.put_record-requires-clause-m_len
put_record-requires-clause-m_len c =
    let p = c.requires.passing in
    (hung_only c.args.m.now c.plant.new.m c.hang.new.m p.size c.plant.auto.m c.hang.auto.m).long ∙ p.size

pub put_record-requires-clause-term_len : goal.put_record-requires-clause-term_len
put_record-requires-clause-term_len c = (whole_term c.args.term.now (length c.args.term.now) c.requires.term).short

stored_long : (c : goal.After-put_signs-arg-1) → length c.put_record.new.m ≡ book_words
stored_long c =
    let ws = c.args.m.now in
    let p = c.requires.passing in
    c.put_record.auto.m ∙ (hung_only ws c.plant.new.m c.hang.new.m p.size c.plant.auto.m c.hang.auto.m).long ∙ p.size

pub slice_bounds-put_signs-end-2 : goal.slice_bounds-put_signs-end-2
slice_bounds-put_signs-end-2 c =
    omega (arith, stored_long c, c.split_at_mut-words.ensures.back_len, length-take sign_words c.split_at_mut-words.result.1.now)

pub put_signs-requires-clause-signs_len : goal.put_signs-requires-clause-signs_len
put_signs-requires-clause-signs_len c =
    omega (arith, stored_long c, c.split_at_mut-words.ensures.back_len, length-take sign_words c.split_at_mut-words.result.1.now)

pub returns : goal.returns
returns c =
    let ws = c.args.m.now in
    let k = c.args.number in
    let p = c.requires.passing in
    let form = take (length c.args.term.now) c.row-row.result in
    let planted = subst (PlantedOf (take tree_words ws) c.plant.new.m form) (c.ok_or.ensures.ok_part ∙ ap result_ok c.in_ok-last.was) c.plant.ensures in
    let only = hung_only ws c.plant.new.m c.hang.new.m p.size c.plant.auto.m c.hang.auto.m in
    let long : length c.put_record.new.m ≡ book_words = c.put_record.auto.m ∙ only.long ∙ p.size in
    let hung = subst (λ (n : ℕ). Hung (shape c.plant.new.m) (shape c.hang.new.m) c.in_ok-last.last c.in_ok-r.r n) c.from.ensures c.hang.ensures in
    let takes = taken_now ws k (plain c.args.term.now) p c.in_ok-r.r c.in_ok-r.ensures c.requires.term c.requires.number_lt_rule_numbers
    c.plant.new.m c.in_ok-last.last _ (row_form c.row-row.result c.args.term.now k c.row-row.ensures) planted.1 planted.0
    c.hang.new.m _ c.put_record.new.m hung only c.put_record.ensures long in
    let only_signs = written c.put_record.new.m c.split_at_mut-words.result.0.now c.split_at_mut-words.result.1.now c.put_signs.new.signs long
    c.split_at_mut-words.ensures.front c.split_at_mut-words.ensures.back c.put_signs.auto.signs in
    with_signs takes (signs_only only_signs) only_signs.long
