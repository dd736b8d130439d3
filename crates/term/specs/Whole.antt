-- What is read as a whole term is one: its cells, and no others, decide it.
use Rattle.std.specs.Prelude.{◌≡◌, refl, List, [], ◌∷◌, ◌++◌, map, Bool, true, false, ℕ, zero, suc, ◌+◌, ◌-◌, ◌≤◌, ltb, leb, length, take, Result, Ok, Err}
use Rattle.std.proofs.Common.{sym, ap, ◌∙◌, subst, add-zero, arith, ltb-true}
use Rattle.deciding.specs.Deciding.{pick}
use Rattle.term.specs.Cells.{Cell, vari, symb, Row, star, arity, Proper, Terms, none, more, blanked, cell_of, term_of, blank_of, blank_form}
use Rattle.term.specs.Reading.{Refused, Fault, Wants, takes, go_on, read_from, read_term}
use Rattle.term.specs.Preorder.{recount, not_empty}

-- A cell of a term and the same cell of its blank form.
pub blank_cell : (c : ℕ) → blanked (cell_of c) ≡ blank_of c
blank_cell c = go (ltb c 32768)
  where
    go : (b : Bool) → blanked (pick b (symb c) (vari (c - 32768))) ≡ pick b (symb c) star
    go true = refl
    go false = refl

pub blank_row : (s : List ℕ) → map blanked (term_of s) ≡ blank_form s
blank_row [] = refl
blank_row (c ∷ s) = rw (blank_cell c, blank_row s)

pub blank_terms : {X : Type 0} {n : ℕ} {s : Row X} → Terms n s → Terms n (map blanked s)
blank_terms none = none
blank_terms (more {c = vari x} p t) = more tt (blank_terms t)
blank_terms (more {c = symb c} p t) = more p (blank_terms t)

proper_cell : (c : ℕ) → Proper (cell_of c)
proper_cell c = go (ltb c 32768) refl
  where
    go : (b : Bool) → ltb c 32768 ≡ b → Proper (pick {X = Cell ℕ} b (symb c) (vari (c - 32768)))
    go true e = ltb-true c 32768 e
    go false e = tt

-- A cell that is taken calls for its arity.
abbrev asks : Result Wants Fault → ℕ → Type 0
asks (Ok w) n = w.arity ≡ n
asks (Err fault) n = Unit {0}

asks_pick : (b : Bool) (s t : Result Wants Fault) (n : ℕ) → (b ≡ true → asks s n) → (b ≡ false → asks t n) → asks (pick b s t) n
asks_pick true s t n h k = h refl
asks_pick false s t n h k = k refl

taken_arity : (known c : ℕ) → asks (takes known c) (arity (cell_of c))
unfolding takes
taken_arity known c =
    asks_pick (ltb c 0x8000) _ _ (arity (cell_of c)) (λ e. rw e) (λ e.
    asks_pick (leb 0x9000 c) _ _ (arity (cell_of c)) (λ _. tt) (λ _.
    asks_pick (ltb 15 (c - 0x8000)) _ _ (arity (cell_of c)) (λ _. tt) (λ _.
    asks_pick (ltb known (c - 0x8000)) _ _ (arity (cell_of c)) (λ _. tt) (λ _.
    asks_pick (ltb (c - 0x8000) known) _ _ (arity (cell_of c)) (λ _. rw e) (λ _. rw e)))))

-- What a whole reading says, `size` cells from a place on.
record Read (left wanted place : ℕ) (s : List ℕ) (end : ℕ) : Type 0 where
  size : ℕ
  is : end ≡ place + size
  short : size ≤ left
  inside : size ≤ length s
  terms : Terms wanted (term_of (take size s))

whole_inj : {a b : ℕ} → ◌≡◌ {A = Result ℕ Refused} (Ok a) (Ok b) → a ≡ b
whole_inj e = cc

refused_whole : {r : Refused} {b : ℕ} → ◌≡◌ {A = Result ℕ Refused} (Err r) (Ok b) → ⊥
refused_whole e = cc

read_none : (left place end : ℕ) (s : List ℕ) → ◌≡◌ {A = Result ℕ Refused} (Ok place) (Ok end) → Read left zero place s end
read_none left place end s e =
    record { size = 0; is = sym (whole_inj e) ∙ sym (add-zero place); short = omega arith; inside = omega arith; terms = none }

reads : (left wanted known place : ℕ) (s : List ℕ) (end : ℕ) → read_from left wanted known place s ≡ Ok end → Read left wanted place s end
unfolding read_from
reads zero zero known place s end e = read_none zero place end s e
reads zero (suc wanted) known place s end e = absurd (refused_whole e)
reads (suc left) zero known place s end e = read_none (suc left) place end s e
reads (suc left) (suc wanted) known place [] end e = absurd (refused_whole e)
reads (suc left) (suc wanted) known place (c ∷ s) end e =
    go (takes known c) (taken_arity known c) (λ a k. reads left (a + wanted) k (suc place) s end) e
  where
    go : (t : Result Wants Fault) → asks t (arity (cell_of c))
        → ((a k : ℕ) → read_from left (a + wanted) k (suc place) s ≡ Ok end → Read left (a + wanted) (suc place) s end)
        → go_on t place (λ a k. read_from left (a + wanted) k (suc place) s) ≡ Ok end → Read (suc left) (suc wanted) place (c ∷ s) end
    go (Ok w) h ih q =
        let r = ih w.arity w.known q in
        record {
          size = suc r.size;
          is = r.is ∙ omega arith;
          short = let l = r.short in omega arith;
          inside = let l = r.inside in omega arith;
          terms = more (proper_cell c) (recount (ap (λ (x : ℕ). x + wanted) h) r.terms);
        }
    go (Err fault) h ih q = absurd (refused_whole q)

-- A whole term: at least one cell and at most 32, all there, and one term in preorder, as it stands and as a blank form.
pub record TermAt (s : List ℕ) (size : ℕ) : Type 0 where
  pub some : 1 ≤ size
  pub short : size ≤ 32
  pub inside : size ≤ length s
  pub term : Terms 1 (term_of (take size s))
  pub form : Terms 1 (blank_form (take size s))

some_cells : (s : List ℕ) (size : ℕ) → Terms 1 (term_of (take size s)) → 1 ≤ size
some_cells [] zero t = absurd (not_empty t)
some_cells (c ∷ s) zero t = absurd (not_empty t)
some_cells s (suc n) t = omega arith

pub whole_term : (s : List ℕ) (size : ℕ) → read_term s ≡ Ok size → TermAt s size
unfolding read_term
whole_term s size e =
    let r = reads 32 1 0 0 s size e in
    let same : r.size ≡ size = omega (arith, r.is) in
    subst (TermAt s) same (record {
      some = some_cells s r.size r.terms;
      short = r.short;
      inside = r.inside;
      term = r.terms;
      form = subst (Terms 1) (blank_row (take r.size s)) (blank_terms r.terms);
    })

-- Its own cells decide it: followed by anything, they are read as the same whole term.
keeps : (left wanted known place : ℕ) (s t : List ℕ) (end size : ℕ) → read_from left wanted known place s ≡ Ok end → end ≡ place + size
    → read_from left wanted known place (take size s ++ t) ≡ Ok end
unfolding read_from
keeps zero zero known place s t end size e f = e
keeps zero (suc wanted) known place s t end size e f = absurd (refused_whole e)
keeps (suc left) zero known place s t end size e f = e
keeps (suc left) (suc wanted) known place [] t end size e f = absurd (refused_whole e)
keeps (suc left) (suc wanted) known place (c ∷ s) t end zero e f =
    absurd (later (takes known c) e)
  where
    later : (x : Result Wants Fault) → go_on x place (λ a k. read_from left (a + wanted) k (suc place) s) ≡ Ok end → ⊥
    later (Ok w) q = let r = reads left (w.arity + wanted) w.known (suc place) s end q in omega (arith, r.is)
    later (Err fault) q = refused_whole q
keeps (suc left) (suc wanted) known place (c ∷ s) t end (suc size) e f =
    go (takes known c) (λ a k q. keeps left (a + wanted) k (suc place) s t end size q (omega arith)) e
  where
    go : (x : Result Wants Fault) → ((a k : ℕ) → read_from left (a + wanted) k (suc place) s ≡ Ok end → read_from left (a + wanted) k (suc place) (take size s ++ t) ≡ Ok end)
        → go_on x place (λ a k. read_from left (a + wanted) k (suc place) s) ≡ Ok end
        → go_on x place (λ a k. read_from left (a + wanted) k (suc place) (take size s ++ t)) ≡ Ok end
    go (Ok w) ih q = ih w.arity w.known q
    go (Err fault) ih q = q

pub whole_alone : (s t : List ℕ) (size : ℕ) → read_term s ≡ Ok size → read_term (take size s ++ t) ≡ Ok size
unfolding read_term
whole_alone s t size e = keeps 32 1 0 0 s t size size e (omega arith)
