-- The place of the number is one field, the length one word and the cells term-long: three stores that meet nothing else.
use Rattle.std.proofs.Common.{◌≡◌, refl, ap, ◌∙◌, List, ℕ, ◌+◌, ◌*◌, ◌-◌, arith, length, set, take, drop, length-take, length-drop}
use borrow.Rule.Slice.PartMut.{put_mid}
use Rattle.layout.specs.Layout.{places_at, place_words, term_words, record_words, terms_at, book_words}
use Rattle.bits.specs.Packed.{fields}
use Rattle.book.specs.Rules.{plain}
use Rattle.change.proofs.Storing.{stored, two_long, term_long}
use Rattle.change.proofs.put_record.Goals as goal

places_long : (ws p : List ℕ) → length p ≡ length (take place_words (drop places_at ws)) → length ws ≡ book_words → length p ≡ place_words
places_long ws p e size = omega (arith, length-take place_words (drop places_at ws), length-drop places_at ws)

pub returns : goal.returns
returns c =
    let ws = c.args.m.now in
    let r = c.args.r in
    let t = c.args.term.now in
    let p = c.put_field.new.words in
    let lp : length p ≡ place_words = places_long ws p c.put_field.auto.words c.requires.m_len in
    let fp : fields p ≡ set (fields (take place_words (drop places_at ws))) c.args.number r =
    c.put_field.ensures ∙ ap (λ (i : ℕ). set (fields (take place_words (drop places_at ws))) i r) c.from.ensures in
    let l = two_long ws p (terms_at + record_words * r - 1) (length t) c.requires.m_len lp in
    let lq : length c.store.new.words ≡ term_words =
    c.store.auto.words
    ∙ term_long (set (put_mid places_at place_words ws p) (terms_at + record_words * r - 1) (length t)) (terms_at + record_words * r)
    (terms_at + record_words * r + term_words - (terms_at + record_words * r)) (omega arith) (omega (arith, l, c.requires.r_low)) in
    stored ws p c.store.new.words c.args.number r (length t) (plain t) c.requires.m_len c.requires.r_low c.requires.number_lt_rule_numbers lp fp refl
    (terms_at + record_words * r + term_words - (terms_at + record_words * r)) (omega arith) lq c.store.ensures
