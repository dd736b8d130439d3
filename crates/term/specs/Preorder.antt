-- Rows in preorder: a row of k + n terms is cut in one way, and no term is the beginning of another. Over any kind of variable.
use Rattle.std.specs.Prelude.{◌≡◌, refl, ℕ, zero, suc, ◌+◌, ◌≤◌, ◌<◌, length}
use Rattle.std.proofs.Common.{sym, ap, ◌∙◌, subst, zero-add, suc-add, add_assoc, add-zero, arith, length-append}
use mathlib.Core.List.{[], ◌∷◌, ◌++◌, head-eq_of_cons-eq, tail-eq_of_cons-eq}
use Rattle.term.specs.Cells.{Cell, Row, arity, Proper, Terms, none, more}
use Rattle.term.specs.Machine.{past}

module _ {X : Type 0} where
  pub recount : {a b : ℕ} {s : Row X} → a ≡ b → Terms a s → Terms b s
  recount {s} e t = subst (λ n. Terms n s) e t

  -- A row taken apart by its first cell.
  pub head_cell : {c : Cell X} {n : ℕ} {s : Row X} → Terms (suc n) (c ∷ s) → Proper c × Terms (arity c + n) s
  head_cell (more p t) = (p, t)

  pub record Opened (n : ℕ) (c : Cell X) (s : Row X) : Type 0 where
    pub count : ℕ
    pub is : n ≡ suc count
    pub proper : Proper c
    pub forms : Terms (arity c + count) s

  pub open_row : {c : Cell X} {n : ℕ} {s : Row X} → Terms n (c ∷ s) → Opened n c s
  open_row (more {n = k} p t) = record { count = k; is = refl; proper = p; forms = t }

  pub not_empty : {n : ℕ} → ¬ (Terms {X = X} (suc n) [])
  not_empty t = elim t [ ]

  pub no_cell : {c : Cell X} {s : Row X} → ¬ (Terms zero (c ∷ s))
  no_cell t = elim t [ ]

  pub empty_none : {n : ℕ} → Terms {X = X} n [] → n ≡ zero
  empty_none none = refl

  pub none_empty : {s : Row X} → Terms zero s → s ≡ []
  none_empty none = refl

  pub term_long : {t : Row X} → Terms 1 t → 1 ≤ length t
  term_long {t = []} w = absurd (not_empty w)
  term_long {t = c ∷ t} w = omega arith

  -- A cell and its arguments are one term.
  pub one_term : {c : Cell X} {s : Row X} → Proper c → Terms (arity c) s → Terms 1 (c ∷ s)
  one_term {c} p t = more p (recount (sym (add-zero (arity c))) t)

  pub arguments : {c : Cell X} {t : Row X} → Terms 1 (c ∷ t) → Terms (arity c) t
  arguments {c} w = recount (add-zero (arity c)) (head_cell w).1

  pub terms_append : {a b : ℕ} {s t : Row X} → Terms a s → Terms b t → Terms (a + b) (s ++ t)
  terms_append {b} none y = recount (sym (zero-add b)) y
  terms_append {b} (more {c} {n} p x) y = recount (sym (suc-add n b)) (more p (recount (add_assoc (arity c) n b) (terms_append x y)))

  -- A row of k + n terms is k terms and then n, and `past k` is what comes after the k.
  pub record Cut (k n : ℕ) (s : Row X) : Type 0 where
    pub front : Row X
    pub back : Row X
    pub is : s ≡ front ++ back
    pub fronts : Terms k front
    pub backs : Terms n back
    pub skips : past k s ≡ back

  nothing_cut : (s : Row X) (n : ℕ) → past zero s ≡ s → Terms (zero + n) s → Cut zero n s
  nothing_cut s n e t = record { front = []; back = s; is = refl; fronts = none; backs = recount (zero-add n) t; skips = e }

  pub cut : (s : Row X) (k n : ℕ) → Terms (k + n) s → Cut k n s
  cut [] zero n t = nothing_cut [] n refl t
  cut [] (suc k) n t = absurd (not_empty (recount (suc-add k n) t))
  cut (c ∷ s) zero n t = nothing_cut (c ∷ s) n refl t
  cut (c ∷ s) (suc k) n t =
      let u = head_cell (recount (suc-add k n) t) in
      let i = cut s (arity c + k) n (recount (sym (add_assoc (arity c) k n)) u.1) in
      record { front = c ∷ i.front; back = i.back; is = ap (λ (l : Row X). c ∷ l) i.is; fronts = more u.0 i.fronts; backs = i.backs; skips = i.skips }

  past_zero : (q : Row X) → past zero q ≡ q
  past_zero [] = refl
  past_zero (c ∷ q) = refl

  pub past_terms : (q : Row X) {k : ℕ} {t : Row X} → Terms k t → past k (t ++ q) ≡ q
  past_terms q none = past_zero q
  past_terms q (more p t) = past_terms q t

  pub shorter : (q a b : Row X) → q ≡ a ++ b → Terms 1 a → length b < length q
  shorter q a b e w = omega (arith, ap length e ∙ length-append a b, term_long w)

  -- Equally many terms at the beginning of one row end at one place; so no term is the beginning of another.
  pub same_rest : {k : ℕ} {s t u v : Row X} → Terms k s → Terms k t → s ++ u ≡ t ++ v → u ≡ v
  same_rest none none e = e
  same_rest (more {c} {n} p x) (more p' y) e =
      same_rest x (recount (ap (λ (d : Cell X). arity d + n) (sym (head-eq_of_cons-eq e))) y) (tail-eq_of_cons-eq e)
