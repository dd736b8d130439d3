-- The machine's steps in the numbers that the code has: each way through the code is one clause of `step` or of `past`.
use Rattle.std.proofs.Common.{◌≡◌, refl, sym, ap, ◌∙◌, List, [], ◌∷◌, Bool, true, false, ℕ, zero, suc, ◌+◌, ◌-◌, ◌≤◌, ◌<◌, add-one, arith, length, get_or, drop}
use Rattle.std.specs.Prelude.{ltb, Option, Some, None}
use borrow.Author.Tests.{lt-ltb, le-ltb, eq-eqb, ne_eqb, ltb-true, ltb-false}
use Rattle.deciding.specs.Deciding.{pick}
use Rattle.term.specs.Cells.{Row, Blank, star, symb, arity, blank_of, blank_form}
use Rattle.term.specs.Machine.{at, past, step}
use Rattle.term.specs.Steps.{Spot, spot, Passed, Stepped}

pub is_symbol : (c : ℕ) → c < 32768 → blank_of c ≡ symb c
is_symbol c h = ap (λ b. pick b (symb c) star) (lt-ltb c 32768 h)

pub blank_is_it : (c : ℕ) → 32768 ≤ c → blank_of c ≡ star
blank_is_it c h = ap (λ b. pick b (symb c) star) (le-ltb c 32768 h)

pub cell_here : (q : List ℕ) (i : ℕ) → i < length q → drop i (blank_form q) ≡ blank_of (get_or q i 0) ∷ drop (suc i) (blank_form q)
cell_here [] i h = absurd (omega arith)
cell_here (c ∷ q) zero h = refl
cell_here (c ∷ q) (suc i) h = cell_here q i (omega arith)

-- past so many subterms
past_zero : (q : Row Blank) → past zero q ≡ q
past_zero [] = refl
past_zero (c ∷ q) = refl

pub past_turn : (q : List ℕ) (i w a : ℕ) → i < length q → ¬ (w ≡ 0) → a ≡ arity (blank_of (get_or q i 0))
    → past (w - 1 + a) (drop (i + 1) (blank_form q)) ≡ past w (drop i (blank_form q))
past_turn q i zero a h hw e = absurd (hw refl)
past_turn q i (suc w) a h hw e = rw (cell_here q i h, e, add-one i) (ap (λ (k : ℕ). past k (drop (suc i) (blank_form q))) (omega arith))

pub past_stop : (q : List ℕ) (i w k p : ℕ) → w ≡ 0 → i ≤ length q → past w (drop i (blank_form q)) ≡ past k (drop p (blank_form q)) → Passed q k p i
past_stop q i w k p e l h = record { inside = l; is = sym h ∙ rw e (past_zero (drop i (blank_form q))) }

abbrev pub on : (skip place : ℕ) → Option Spot
on skip place = Some (record { skip = skip; place = place })

module _ (fq fr : Bool) (q : List ℕ) (c : ℕ) where
  -- the rule's cell c meets the question's cell at p
  module _ (p : ℕ) (h : p < length q) where
    here : step fq fr (blank_of c) (spot q 0 p) ≡ step fq fr (blank_of c) (at 0 (blank_of (get_or q p 0) ∷ drop (p + 1) (blank_form q)))
    here = rw (cell_here q p h, add-one p)

    pub blank_blank : 32768 ≤ get_or q p 0 → 32768 ≤ c → Stepped fq fr q c 0 p (on 0 (p + 1))
    blank_blank hd hc = record { inside = omega arith; few = omega arith; is = rw (here, blank_is_it c hc, blank_is_it (get_or q p 0) hd) }

    pub fill_question : 32768 ≤ get_or q p 0 → c < 32768 → (a : ℕ) → (a ≡ arity (blank_of c)) × (a ≤ 7) → fq ≡ true → Stepped fq fr q c 0 p (on a (p + 1))
    fill_question hd hc a ea f =
        record { inside = omega arith; few = omega (arith, ea.1); is = rw (here, ea.0, is_symbol c hc, blank_is_it (get_or q p 0) hd) (rw f refl) }

    pub keep_question : 32768 ≤ get_or q p 0 → c < 32768 → fq ≡ false → Stepped fq fr q c 0 p None
    keep_question hd hc f = record { inside = tt; few = tt; is = rw (here, is_symbol c hc, blank_is_it (get_or q p 0) hd) (rw f refl) }

    pub fill_rule : get_or q p 0 < 32768 → 32768 ≤ c → (a e : ℕ) → a ≡ arity (blank_of (get_or q p 0)) → Passed q a (p + 1) e → fr ≡ true → Stepped fq fr q c 0 p (on 0 e)
    fill_rule hd hc a e ea x f =
        record { inside = x.inside; few = omega arith; is = rw (here, ← x.is, ea, blank_is_it c hc, is_symbol (get_or q p 0) hd) (rw f refl) }

    pub keep_rule : get_or q p 0 < 32768 → 32768 ≤ c → fr ≡ false → Stepped fq fr q c 0 p None
    keep_rule hd hc f = record { inside = tt; few = tt; is = rw (here, blank_is_it c hc, is_symbol (get_or q p 0) hd) (rw f refl) }

    pub same_symbol : c < 32768 → c ≡ get_or q p 0 → Stepped fq fr q c 0 p (on 0 (p + 1))
    same_symbol hc e =
        record { inside = omega arith; few = omega arith; is = rw (here, is_symbol c hc, is_symbol (get_or q p 0) (omega arith)) (rw (eq-eqb (get_or q p 0) c (sym e)) refl) }

    pub other_symbol : get_or q p 0 < 32768 → c < 32768 → ¬ (c ≡ get_or q p 0) → Stepped fq fr q c 0 p None
    other_symbol hd hc n =
        record { inside = tt; few = tt; is = rw (here, is_symbol c hc, is_symbol (get_or q p 0) hd) (rw (ne_eqb (get_or q p 0) c (λ e. n (sym e))) refl) }

    -- equal cells: the same symbol, or two blanks
    pub same_cell_is : c ≡ get_or q p 0 → Stepped fq fr q c 0 p (on 0 (p + 1))
    same_cell_is e = go (ltb c 32768) refl
      where
        go : (b : Bool) → ltb c 32768 ≡ b → Stepped fq fr q c 0 p (on 0 (p + 1))
        go true t = same_symbol (omega (arith, ltb-true c 32768 t)) e
        go false t = let n = ltb-false c 32768 t in blank_blank (omega arith) n
