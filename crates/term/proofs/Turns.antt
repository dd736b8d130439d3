-- The reading, turn by turn, in the numbers that the loop has: each way out and the way on is one clause of `read_from`.
use Rattle.std.proofs.Common.{◌≡◌, refl, sym, ap, ◌∙◌, subst, List, [], Bool, true, false, ℕ, zero, suc, ◌+◌, ◌-◌, ◌/◌, ◌≤◌, ◌<◌, add-one, arith, length, get_or, drop, drop-cons, drop_of_length-le}
use Rattle.std.specs.Prelude.{ltb, leb, Result, Ok, Err}
use borrow.Author.Tests.{ltb-true}
use Rattle.deciding.specs.Deciding.{pick}
use Rattle.term.specs.Reading.{Fault, Wants, calls_for, refused, TooLong, CutShort, takes, go_on, read_from}

-- A cell calls for at most 7 arguments.
asked : Result Wants Fault → ℕ
asked (Ok w) = w.arity
asked (Err fault) = 0

asked_pick : (b : Bool) (s t : Result Wants Fault) → (b ≡ true → asked s ≤ 7) → asked t ≤ 7 → asked (pick b s t) ≤ 7
asked_pick true s t h k = h refl
asked_pick false s t h k = k

asked_few : (known c : ℕ) → asked (takes known c) ≤ 7
unfolding asked takes
asked_few known c =
    asked_pick (ltb c 0x8000) (calls_for (c / 4096) known) _ (λ e. omega (arith, ltb-true c 0x8000 e))
    (asked_pick (leb 0x9000 c) _ _ (λ e. omega arith)
    (asked_pick (ltb 15 (c - 0x8000)) _ _ (λ e. omega arith)
    (asked_pick (ltb known (c - 0x8000)) _ _ (λ e. omega arith)
    (asked_pick (ltb (c - 0x8000) known) _ _ (λ e. omega arith) (omega arith)))))

pub few : (known c a k : ℕ) → calls_for a k ≡ takes known c → a ≤ 7
unfolding asked
few known c a k e = subst (λ (t : Result Wants Fault). asked t ≤ 7) (sym e) (asked_few known c)

-- a number that is not 0, as the definition matches on it
record Positive (n : ℕ) : Type 0 where
  before : ℕ
  is : n ≡ suc before

positive : (n : ℕ) → 0 < n → Positive n
positive zero h = absurd (omega arith)
positive (suc k) h = record { before = k; is = refl }

pub whole : (left wanted known place : ℕ) (s : List ℕ) (end : ℕ) → place ≡ end → wanted ≤ 0 → read_from left wanted known place s ≡ Ok end
unfolding read_from
whole zero zero known place s end e h = ap Ok e
whole (suc left) zero known place s end e h = ap Ok e
whole left (suc wanted) known place s end e h = absurd (omega arith)

pub too_long : (left wanted known place : ℕ) (s : List ℕ) (end : ℕ) → place ≡ end → left ≤ 0 → 0 < wanted
    → read_from left wanted known place s ≡ refused TooLong end
unfolding read_from
too_long zero zero known place s end e h p = absurd (omega arith)
too_long zero (suc wanted) known place s end e h p = ap (refused TooLong) e
too_long (suc left) wanted known place s end e h p = absurd (omega arith)

cut_short : (left wanted known place : ℕ) (s : List ℕ) → 0 < left → 0 < wanted → s ≡ [] → read_from left wanted known place s ≡ refused CutShort place
unfolding read_from
cut_short zero wanted known place s h p e = absurd (omega arith)
cut_short (suc left) zero known place s h p e = absurd (omega arith)
cut_short (suc left) (suc wanted) known place s h p e = rw e

module _ (cells : List ℕ) (wanted known place : ℕ) (room : place < 32) (wanting : 0 < wanted) where
  pub no_cell : length cells ≤ place → read_from (32 - place) wanted known place (drop place cells) ≡ refused CutShort place
  no_cell h = cut_short (32 - place) wanted known place (drop place cells) (omega arith) wanting (drop_of_length-le cells h)

  module _ (there : place < length cells) (c : ℕ) (is : c ≡ get_or cells place 0) where
    -- one cell is read
    opened : (left w : ℕ) → 32 - place ≡ suc left → wanted ≡ suc w
        → read_from (32 - place) wanted known place (drop place cells)
        ≡ go_on (takes known c) place (λ a k. read_from left (a + w) k (suc place) (drop (suc place) cells))
    unfolding read_from
    opened left w e f = rw (e, f, drop-cons cells place 0 there, is)

    left : Positive (32 - place)
    left = positive (32 - place) (omega arith)

    rest : Positive wanted
    rest = positive wanted wanting

    pub faulty : (fault : Fault) → Err fault ≡ takes known c → read_from (32 - place) wanted known place (drop place cells) ≡ refused fault place
    faulty fault e = opened left.before rest.before left.is rest.is ∙ rw (sym e)

    pub wants : (a k : ℕ) → calls_for a k ≡ takes known c
        → read_from (32 - (place + 1)) (wanted - 1 + a) k (place + 1) (drop (place + 1) cells) ≡ read_from (32 - place) wanted known place (drop place cells)
    wants a k e =
        let less : 32 - (place + 1) ≡ left.before = omega (arith, left.is) in
        let more : wanted - 1 + a ≡ a + rest.before = omega (arith, rest.is) in
        rw (less, more, add-one place) (sym (opened left.before rest.before left.is rest.is ∙ rw (sym e)))
