-- A number that is held has its record at its place, and the record has the cells and zeros.
use Rattle.std.proofs.Common.{◌≡◌, sym, ap, ◌∙◌, subst, ℕ, List, ◌+◌, ◌*◌, ◌-◌, ◌≤◌, arith, get_or, take, drop}
use Rattle.layout.specs.Layout.{term_words, record_words, records_at, terms_at}
use Rattle.bits.specs.Packed.{fields}
use Rattle.book.specs.Memory.{Passing, view}
use Rattle.book.specs.Filling.{Zeros}
use Rattle.book.specs.Placing.{Placed, placed, record_short, record_clean, shows_rule}
use Rattle.book.proofs.show.Goals as goal

module _ (ws : List ℕ) (number r : ℕ) (p : Passing ws) (here : Placed ws number r) where
  abbrev at : ℕ
  at = terms_at + record_words * r

  size_is : get_or ws (at - 1) 0 ≡ (view ws).size r
  size_is = let e : at - 1 ≡ records_at + record_words * r = omega arith in ap (λ (k : ℕ). get_or ws k 0) e

  cells_are : fields (take (at + term_words - at) (drop at ws)) ≡ (view ws).cells r
  cells_are = let w : at + term_words - at ≡ term_words = omega arith in ap (λ (k : ℕ). fields (take k (drop at ws))) w

  short : get_or ws (at - 1) 0 ≤ 32
  short = subst (λ (k : ℕ). k ≤ 32) (sym size_is) (record_short ws number r p here)

  clean : Zeros (fields (take (at + term_words - at) (drop at ws))) (get_or ws (at - 1) 0)
  clean k h = ap (λ (l : List ℕ). get_or l k 0) cells_are ∙ record_clean ws number r p here k (subst (λ (n : ℕ). n ≤ k) size_is h)

-- the number's rule is at the place that was found
found : (c : goal.After-load_term-arg-1) → Placed c.args.m.now c.args.number c.in_ok-r.r
found c = placed c.args.m.now c.args.number c.in_ok-r.r (sym c.place_of.ensures.place ∙ c.in_ok-r.was)

pub load_term-cells-requires-clause-size_bound : goal.load_term-cells-requires-clause-size_bound
load_term-cells-requires-clause-size_bound c = short c.args.m.now c.args.number c.in_ok-r.r c.requires.passing (found c)

pub load_term-cells-requires-clause-zeros : goal.load_term-cells-requires-clause-zeros
load_term-cells-requires-clause-zeros c = clean c.args.m.now c.args.number c.in_ok-r.r c.requires.passing (found c)

pub returns : goal.returns
returns c =
    let ws = c.args.m.now in
    let r = c.in_ok-r.r in
    let here = placed ws c.args.number r (sym c.place_of.ensures.place ∙ c.in_ok-r.was) in
    shows_rule ws c.args.number r _ c.load_term-cells.result c.requires.passing here
    (size_is ws c.args.number r c.requires.passing here) (c.load_term-cells.ensures ∙ cells_are ws c.args.number r c.requires.passing here)
