-- Why the machine answers each of the four questions: what it matches is what some filling gives, and the other way round. That it
-- accepts exactly the rules that answer is `decides` of proofs/Meaning.
use Rattle.std.specs.Prelude.{◌≡◌, refl, ◌↔◌, true, false, ℕ, zero, suc, ◌+◌, ◌/◌, ◌≤◌, length}
use Rattle.std.proofs.Common.{sym, ap, ◌∙◌, subst, zero-add, arith}
use mathlib.Core.List.{[], ◌∷◌, ◌++◌, append_assoc, head-eq_of_cons-eq, tail-eq_of_cons-eq}
use Rattle.term.specs.Cells.{Cell, vari, symb, Row, Blank, blank, star, arity, Terms, none, more}
use Rattle.term.specs.Questions.{Filling, fill, instances, generalisations, Answers}
use Rattle.term.specs.Preorder.{recount, Cut, cut, terms_append, no_cell, empty_none, open_row, shorter, same_rest}
use Rattle.term.specs.Matching.{Match, end, both, left, right}

-- `Fill q u`: some filling of q gives u, cell by cell.
pub data Fill : Row Blank → Row Blank → Type 0 where
  nil : Fill [] []
  keep : {c : ℕ} {q u : Row Blank} → Fill q u → Fill (symb c ∷ q) (symb c ∷ u)
  put : {t q u : Row Blank} → Terms 1 t → Fill q u → Fill (star ∷ q) (t ++ u)

first_then : (t : Row Blank) → Filling → ℕ → Row Blank
first_then t f zero = t
first_then t f (suc k) = f.at k

first_form : (t : Row Blank) (f : Filling) → Terms 1 t → (k : ℕ) → Terms 1 (first_then t f k)
unfolding first_then
first_form t f w zero = w
first_form t f w (suc k) = f.form k

-- the filling that has t first, and then the forms of f
with_first : (t : Row Blank) → Terms 1 t → Filling → Filling
with_first t w f = record { at = first_then t f; form = first_form t f w }

fill_later : (t : Row Blank) (w : Terms 1 t) (f : Filling) (k : ℕ) (q : Row Blank) → fill (with_first t w f) (suc k) q ≡ fill f k q
unfolding fill with_first first_then
fill_later t w f k [] = refl
fill_later t w f k (vari x ∷ q) = ap (λ (l : Row Blank). f.at k ++ l) (fill_later t w f (suc k) q)
fill_later t w f k (symb c ∷ q) = ap (λ (l : Row Blank). symb c ∷ l) (fill_later t w f k q)

stars : Filling
stars = record { at = λ k. star ∷ []; form = λ k. more tt none }

pub to_filling : {q u : Row Blank} → Fill q u → (f : Filling) × (fill f 0 q ≡ u)
unfolding fill with_first first_then
to_filling nil = (stars, refl)
to_filling (keep {c} x) = let i = to_filling x in (i.0, ap (λ (l : Row Blank). symb c ∷ l) i.1)
to_filling (put {t} {q} w x) =
    let i = to_filling x in
    (with_first t w i.0, ap (λ (l : Row Blank). t ++ l) (fill_later t w i.0 0 q ∙ i.1))

pub of_filling : (f : Filling) (k : ℕ) (q : Row Blank) → Fill q (fill f k q)
unfolding fill
of_filling f k [] = nil
of_filling f k (vari blank ∷ q) = put (f.form k) (of_filling f (suc k) q)
of_filling f k (symb c ∷ q) = keep (of_filling f k q)

-- variants
pub same : (q : Row Blank) → Match false false q q
same [] = end
same (c ∷ q) = both (same q)

pub equal : {q r : Row Blank} → Match false false q r → q ≡ r
equal end = refl
equal (both {c} x) = ap (λ (l : Row Blank). c ∷ l) (equal x)
equal (left h w x) = absurd h
equal (right h w x) = absurd h

-- instances; generalisations are the same, flipped
put_star : {q u : Row Blank} → Fill q u → Fill (star ∷ q) (star ∷ u)
put_star x = put {t = star ∷ []} (more tt none) x

pub to_fill : {q r : Row Blank} → Match true false q r → Fill q r
to_fill end = nil
to_fill (both {c = vari blank} x) = put_star (to_fill x)
to_fill (both {c = symb c} x) = keep (to_fill x)
to_fill (left h w x) = put w (to_fill x)
to_fill (right h w x) = absurd h

pub of_fill : {q r : Row Blank} → Fill q r → Match true false q r
of_fill nil = end
of_fill (keep x) = both (of_fill x)
of_fill (put w x) = left tt w (of_fill x)

-- unifiables: from a match to one row that both can be filled to
fill_self : (t : Row Blank) → Fill t t
fill_self [] = nil
fill_self (vari blank ∷ t) = put_star (fill_self t)
fill_self (symb c ∷ t) = keep (fill_self t)

fill_append : {a u b v : Row Blank} → Fill a u → Fill b v → Fill (a ++ b) (u ++ v)
fill_append nil y = y
fill_append (keep x) y = keep (fill_append x y)
fill_append {b} {v} (put {t} {q} {u} w x) y = rw append_assoc (put w (fill_append x y))

pub joined : {q r : Row Blank} → Match true true q r → (u : Row Blank) × Fill q u × Fill r u
joined end = ([], nil, nil)
joined (both {c = vari blank} x) = let i = joined x in (star ∷ i.0, put_star i.1, put_star i.2)
joined (both {c = symb c} x) = let i = joined x in (symb c ∷ i.0, keep i.1, keep i.2)
joined (left {t} h w x) = let i = joined x in (t ++ i.0, put w i.1, fill_append (fill_self t) i.2)
joined (right {t} h w x) = let i = joined x in (t ++ i.0, fill_append (fill_self t) i.1, put w i.2)

-- .. and back: where both are filled to one row, a blank of one side meets one whole term of the other
fill_terms : {k : ℕ} {s u : Row Blank} → Fill s u → Terms k s → Terms k u
fill_terms nil t = t
fill_terms (keep {c} x) (more {n} p t) = more p (fill_terms {k = arity {X = Blank} (symb c) + n} x t)
fill_terms (put w x) (more {n} p t) = recount (omega arith) (terms_append w (fill_terms {k = n} x (recount (zero-add n) t)))

-- a filling of two rows in a row
record Two (s r u : Row Blank) : Type 0 where
  first : Row Blank
  second : Row Blank
  is : u ≡ first ++ second
  fills : Fill s first
  then : Fill r second

two : (s r : Row Blank) {u : Row Blank} → Fill (s ++ r) u → Two s r u
two [] r {u} x = record { first = []; second = u; is = refl; fills = nil; then = x }
two (symb c ∷ s) r (keep x) =
    let i = two s r x in
    record { first = symb c ∷ i.first; second = i.second; is = ap (λ (l : Row Blank). symb c ∷ l) i.is; fills = keep i.fills; then = i.then }
two (vari blank ∷ s) r (put {t} w x) =
    let i = two s r x in
    record { first = t ++ i.first; second = i.second; is = ap (λ (l : Row Blank). t ++ l) i.is ∙ sym (append_assoc t i.first i.second); fills = put w i.fills; then = i.then }

record Put (q u : Row Blank) : Type 0 where
  form : Row Blank
  later : Row Blank
  is : u ≡ form ++ later
  good : Terms 1 form
  fills : Fill q later

of_put : {q u : Row Blank} → Fill (star ∷ q) u → Put q u
of_put (put {t} {u} w x) = record { form = t; later = u; is = refl; good = w; fills = x }

of_keep : {c : ℕ} {q u : Row Blank} → Fill (symb c ∷ q) u → (v : Row Blank) × (u ≡ symb c ∷ v) × Fill q v
of_keep (keep {u} x) = (u, refl, x)

-- a blank before p is filled to what s is filled to: s begins with the term that the blank meets
record Meets (p s : Row Blank) (n : ℕ) : Type 0 where
  cuts : Cut 1 n s
  later : Row Blank
  fills : Fill p later
  then : Fill cuts.back later

meets : (p s u : Row Blank) (n : ℕ) → Terms (suc n) s → Fill (star ∷ p) u → Fill s u → Meets p s n
meets p s u n w x y =
    let i = of_put x in
    let k = cut s 1 n (recount (omega arith) w) in
    let j = two k.front k.back (subst (λ (z : Row Blank). Fill z u) k.is y) in
    let e = same_rest i.good (fill_terms j.fills k.fronts) (sym i.is ∙ j.is) in
    record { cuts = k; later = i.later; fills = i.fills; then = subst (λ (z : Row Blank). Fill k.back z) (sym e) j.then }

counts : (c d p p' n : ℕ) → c ≡ d → n ≡ suc p → n ≡ suc p' → d / 4096 + p' ≡ c / 4096 + p
counts c d p p' n e h h' = rw e (omega arith)

symb_eq : {c d : ℕ} → ◌≡◌ {A = Cell Blank} (symb c) (symb d) → c ≡ d
symb_eq e = cc

unify_empty : {n : ℕ} (r : Row Blank) → Terms {X = Blank} n [] → Terms n r → Match true true [] r
unify_empty [] wq wr = end
unify_empty (d ∷ r) wq wr = absurd (no_cell (recount (empty_none wq) wr))

pub unify : (fuel n : ℕ) (q r u : Row Blank) → length q ≤ fuel → Terms n q → Terms n r → Fill q u → Fill r u → Match true true q r
unify zero n [] r u l wq wr x y = unify_empty r wq wr
unify zero n (c ∷ q) r u l wq wr x y = absurd (omega arith)
unify (suc f) n [] r u l wq wr x y = unify_empty r wq wr
unify (suc f) n (vari blank ∷ q) r u l wq wr x y =
    let a = open_row wq in
    let p : ℕ = a.count in
    let m = meets q r u p (recount a.is wr) x y in
    let k = m.cuts in
    rw k.is (left tt k.fronts (unify f p q k.back m.later (omega arith) (recount (zero-add p) a.forms) k.backs m.fills m.then))
unify (suc f) n (symb c ∷ q) [] u l wq wr x y = absurd (no_cell (recount (empty_none wr) wq))
unify (suc f) n (symb c ∷ q) (vari blank ∷ r) u l wq wr x y =
    let a = open_row wr in
    let p : ℕ = a.count in
    let m = meets r (symb c ∷ q) u p (recount a.is wq) y x in
    let k = m.cuts in
    let h = shorter (symb c ∷ q) k.front k.back k.is k.fronts in
    rw k.is (right tt k.fronts (unify f p k.back r m.later (omega arith) k.backs (recount (zero-add p) a.forms) m.then m.fills))
unify (suc f) n (symb c ∷ q) (symb d ∷ r) u l wq wr x y =
    let i = of_keep x in
    let j = of_keep y in
    let a = open_row wq in
    let b = open_row wr in
    let e : symb c ∷ i.0 ≡ symb d ∷ j.0 = sym i.1 ∙ j.1 in
    let ec : c ≡ d = symb_eq (head-eq_of_cons-eq e) in
    let k : d / 4096 + b.count ≡ c / 4096 + a.count = counts c d a.count b.count n ec a.is b.is in
    rw ec (both (unify f (c / 4096 + a.count) q r i.0 (omega arith) a.forms (recount k b.forms) i.2
    (subst (λ (s : Row Blank). Fill r s) (sym (tail-eq_of_cons-eq e)) j.2)))

-- A rule is a generalisation of a pattern exactly when that pattern, were it the rule, is an instance of it.
pub other_way : (q r : Row Blank) → Answers generalisations q r ↔ Answers instances r q
unfolding Answers
other_way q r = (λ a. a, λ a. a)
