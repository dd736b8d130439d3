-- Each link on the way is that of a node in use, and there is less tree behind it.
use Rattle.std.proofs.Common.{◌≡◌, ◌⊎◌, inl, inr, sym, subst, List, ℕ, ◌+◌, ◌^◌, ◌<◌, get_or, arith, None}
use Rattle.layout.specs.Layout.{links_at}
use Rattle.links.specs.Words.{cell_of, next_of}
use Rattle.links.specs.Siblings.{Further}
use Rattle.book.specs.Memory.{view}
use Rattle.questions.specs.Promises.{PassesBy, Reach, Sought, reached, ended, beyond, Threaded, Onwards}
use Rattle.questions.proofs.Threads.{inside}
use Rattle.questions.proofs.Leaps.{Leapt, leaps, steps}
use Rattle.questions.proofs.seeking.sibling.Goals as goal

-- a symbol above the last
stop : {ws : List ℕ} {cell last link x c : ℕ} → PassesBy ws cell link x → ¬ (x ≡ 0) → c ≡ cell_of (get_or ws (links_at + x) 0) → c < 32768 → last < c
    → Sought ws cell last link None
stop {last = last} by n e l d = beyond by n (subst (λ (k : ℕ). last < k) e d) (subst (λ (k : ℕ). k < 32768) e l)

-- the link from which it goes on
leapt : {ws : List ℕ} {cell link x r c : ℕ} → Threaded ws x → ¬ (x ≡ 0) → ((i : ℕ) → get_or ws i 0 < 2 ^ 64)
    → c ≡ cell_of (get_or ws (links_at + x) 0) → c < 32768 → ¬ (c ≡ cell) → Onwards ws cell (get_or ws (links_at + x) 0) r → PassesBy ws cell link x → Leapt ws cell link x r
leapt {ws} {cell} {link} {x} {r} {c} t n all ec l d o by = go (subst (λ (z : ℕ). Reach cell z o.most) (sym ec) o.reach) o.on
  where
    go : Reach cell c o.most → (r ≡ next_of (get_or ws (links_at + x) 0)) ⊎ Further (view ws).tree (get_or ws (links_at + x) 0) o.most r → Leapt ws cell link x r
    go reach (inl e) = steps t n all ec l d e by
    go reach (inr f) = leaps t n all ec reach f by

pub overflow_add-w : goal.overflow_add-w
overflow_add-w c = let h = inside c.loop-x.invariant.threaded c.loop-x-test.true in record { fits = omega arith }

pub offset_bounds-m-x : goal.offset_bounds-m-x
offset_bounds-m-x c = let h = inside c.loop-x.invariant.threaded c.loop-x-test.true in record { fits = omega arith }

pub bounds-m-x : goal.bounds-m-x
bounds-m-x c = let h = inside c.loop-x.invariant.threaded c.loop-x-test.true in omega arith

pub returns-then-c-cell : goal.returns-then-c-cell
returns-then-c-cell c = reached c.loop-x.invariant.by c.loop-x-test.true

pub returns-then-last-c : goal.returns-then-last-c
returns-then-last-c c = stop c.loop-x.invariant.by c.loop-x-test.true c.cell_of-c.ensures c.if-c-ge-MARK.false c.if-last-c.true

pub loop-x-smaller : goal.loop-x-smaller
loop-x-smaller c =
    (leapt c.loop-x.invariant.threaded c.loop-x-test.true (λ i. (c.type_inv.m i).fits) c.cell_of-c.ensures c.if-c-ge-MARK.false c.if-c-cell.false c.onward-x.ensures
    c.loop-x.invariant.by).less

pub loop-x-preserved : goal.loop-x-preserved
loop-x-preserved c =
    let l = leapt c.loop-x.invariant.threaded c.loop-x-test.true (λ i. (c.type_inv.m i).fits) c.cell_of-c.ensures c.if-c-ge-MARK.false c.if-c-cell.false c.onward-x.ensures
    c.loop-x.invariant.by in
    record { threaded = l.threaded; by = l.by }

pub returns : goal.returns
returns c = ended c.loop-x.invariant.by c.loop-x-test.false
