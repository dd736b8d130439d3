-- The link itself, or a sibling further on that is not past the cell wanted.
use Rattle.std.proofs.Common.{◌≡◌, ◌⊎◌, inl, inr, refl, sym, subst, List, ℕ, ◌+◌, ◌^◌, ◌<◌, get_or, arith}
use Rattle.layout.specs.Layout.{links_at}
use Rattle.links.specs.Words.{cell_of}
use Rattle.links.specs.Siblings.{Further}
use Rattle.book.specs.Memory.{view}
use Rattle.questions.specs.Promises.{start, LeapsTo, Threaded}
use Rattle.questions.proofs.Threads.{inside}
use Rattle.questions.proofs.Leaps.{leaps, up_to_it}
use Rattle.questions.proofs.seeking.leap.Goals as goal

here : (ws : List ℕ) (cell link : ℕ) → Threaded ws link → LeapsTo ws cell link link
here ws cell link t = record { threaded = t; by = start }

springs : (ws : List ℕ) (cell link r : ℕ) → Threaded ws link → ¬ (link ≡ 0) → ((i : ℕ) → get_or ws i 0 < 2 ^ 64) → cell < 32768
    → (r ≡ link) ⊎ Further (view ws).tree (get_or ws (links_at + link) 0) cell r → LeapsTo ws cell link r
springs ws cell link r t n all l (inl e) = subst (LeapsTo ws cell link) (sym e) (here ws cell link t)
springs ws cell link r t n all l (inr f) =
    let g = leaps t n all refl
    (up_to_it cell (cell_of (get_or ws (links_at + link) 0)) l) f start in record { threaded = g.threaded; by = g.by }

pub returns-then-cell-ge-MARK : goal.returns-then-cell-ge-MARK
returns-then-cell-ge-MARK c = here c.args.m.now c.args.cell c.args.link c.requires.0

pub overflow_add-w : goal.overflow_add-w
overflow_add-w c = let h = inside c.requires.0 c.requires.1 in record { fits = omega arith }

pub offset_bounds-m-link : goal.offset_bounds-m-link
offset_bounds-m-link c = let h = inside c.requires.0 c.requires.1 in record { fits = omega arith }

pub bounds-m-link : goal.bounds-m-link
bounds-m-link c = let h = inside c.requires.0 c.requires.1 in omega arith

pub returns-then-cell-cell_of : goal.returns-then-cell-cell_of
returns-then-cell-cell_of c = here c.args.m.now c.args.cell c.args.link c.requires.0

pub returns : goal.returns
returns c =
    springs c.args.m.now c.args.cell c.args.link c.known.result c.requires.0 c.requires.1
    (λ i. (c.type_inv.m i).fits) c.if-cell-ge-MARK.false c.known.ensures
