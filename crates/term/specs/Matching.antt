-- The machine accepts exactly where `Match` relates the two rows: cell by cell, or a blank with one whole term.
use Rattle.std.specs.Prelude.{◌≡◌, refl, ◌↔◌, [], ◌∷◌, ◌++◌, Bool, true, false, ℕ, zero, suc, ◌+◌, ◌/◌, T, eqb}
use Rattle.std.proofs.Common.{sym, ap, ◌∙◌, subst, zero-add, suc-add, add_assoc, eqb→eq}
use Rattle.std.proofs.Math.Dec.{eqb_refl}
use Rattle.term.specs.Cells.{Cell, vari, symb, Row, Blank, blank, star, arity, Proper, Terms, none, more}
use Rattle.term.specs.Machine.{State, failed, at, past, only_if, step, run, done}
use Rattle.term.specs.Preorder.{recount, head_cell, open_row, not_empty, none_empty, one_term, arguments, cut, past_terms}

pub data Match (fq fr : Bool) : Row Blank → Row Blank → Type 0 where
  end : Match fq fr [] []
  both : {c : Cell Blank} {q r : Row Blank} → Match fq fr q r → Match fq fr (c ∷ q) (c ∷ r)
  left : {t q r : Row Blank} → T fq → Terms 1 t → Match fq fr q r → Match fq fr (star ∷ q) (t ++ r)
  right : {t q r : Row Blank} → T fr → Terms 1 t → Match fq fr q r → Match fq fr (t ++ q) (star ∷ r)

pub flip : {fq fr : Bool} {q r : Row Blank} → Match fq fr q r → Match fr fq r q
flip end = end
flip (both x) = both (flip x)
flip (left h w x) = right h w (flip x)
flip (right h w x) = left h w (flip x)

-- The rule's row is k terms, and then what matches q.
record Rest (fq fr : Bool) (k : ℕ) (q r : Row Blank) : Type 0 where
  skipped : Row Blank
  later : Row Blank
  is : r ≡ skipped ++ later
  forms : Terms k skipped
  matched : Match fq fr q later

whole : {fq fr : Bool} {q r : Row Blank} → Rest fq fr zero q r → Match fq fr q r
whole {fq} {fr} {q} i = subst (λ l. Match fq fr q l) (sym (i.is ∙ ap (λ l. l ++ i.later) (none_empty i.forms))) i.matched

at_once : {fq fr : Bool} {q r : Row Blank} → Match fq fr q r → Rest fq fr zero q r
at_once {r} x = record { skipped = []; later = r; is = refl; forms = none; matched = x }

-- Once failed, always failed; and a test that a step asks for has passed where the row is accepted.
run_failed : (fq fr : Bool) (r : Row Blank) → T (done (run fq fr failed r)) → ⊥
run_failed fq fr [] h = h
run_failed fq fr (c ∷ r) h = run_failed fq fr r h

passed : (fq fr : Bool) (b : Bool) (s : State) (r : Row Blank) → T (done (run fq fr (only_if b s) r)) → T b × T (done (run fq fr s r))
passed fq fr true s r h = (tt, h)
passed fq fr false s r h = absurd (run_failed fq fr r h)

pass : (fq fr : Bool) (b : Bool) (s : State) (r : Row Blank) → T b → T (done (run fq fr s r)) → T (done (run fq fr (only_if b s) r))
pass fq fr true s r h x = x
pass fq fr false s r h x = absurd h

sound : (fq fr : Bool) (r : Row Blank) (k n : ℕ) (q : Row Blank) → Terms n q → Terms (k + n) r → T (done (run fq fr (at k q) r)) → Rest fq fr k q r
sound fq fr [] zero n [] wq wr h = at_once end
sound fq fr [] zero n (d ∷ q) wq wr h = absurd h
sound fq fr [] (suc k) n q wq wr h = absurd h
sound fq fr (c ∷ r) (suc k) n q wq wr h =
    let u = head_cell (recount (suc-add k n) wr) in
    let i = sound fq fr r (arity c + k) n q wq (recount (sym (add_assoc (arity c) k n)) u.1) h in
    record { skipped = c ∷ i.skipped; later = i.later; is = ap (λ (l : Row Blank). c ∷ l) i.is; forms = more u.0 i.forms; matched = i.matched }
sound fq fr (c ∷ r) zero n [] wq wr h = absurd (run_failed fq fr r h)
sound fq fr (vari blank ∷ r) zero n (vari blank ∷ q) wq wr h =
    let a = open_row wq in
    let u = head_cell (recount (zero-add n ∙ a.is) wr) in
    at_once (both (whole (sound fq fr r 0 a.count q (recount (zero-add a.count) a.forms) u.1 h)))
sound fq fr (symb c ∷ r) zero n (vari blank ∷ q) wq wr h =
    let w = passed fq fr fq (at (c / 4096) q) r h in
    let a = open_row wq in
    let u = head_cell (recount (zero-add n ∙ a.is) wr) in
    let i = sound fq fr r (c / 4096) a.count q (recount (zero-add a.count) a.forms) u.1 w.1 in
    at_once (rw i.is (left w.0 (one_term {c = symb c} u.0 i.forms) i.matched))
sound fq fr (vari blank ∷ r) zero n (symb d ∷ q) wq wr h =
    let w = passed fq fr fr (at 0 (past (d / 4096) q)) r h in
    let a = open_row wq in
    let u = head_cell (recount (zero-add n ∙ a.is) wr) in
    let k = cut q (d / 4096) a.count a.forms in
    let i = sound fq fr r 0 a.count (past (d / 4096) q) (rw k.skips k.backs) u.1 w.1 in
    at_once (rw k.is (right w.0 (one_term {c = symb d} a.proper k.fronts) (rw k.skips at (whole i))))
sound fq fr (symb c ∷ r) zero n (symb d ∷ q) wq wr h =
    let w = passed fq fr (eqb d c) (at 0 q) r h in
    let e = eqb→eq d c w.0 in
    let a = open_row wq in
    let u = head_cell (recount (zero-add n ∙ a.is) wr) in
    let k : ℕ = d / 4096 + a.count in
    let i = sound fq fr r 0 k q a.forms (recount (ap (λ (x : ℕ). x / 4096 + a.count) (sym e) ∙ sym (zero-add k)) u.1) w.1 in
    at_once (rw e (both (whole i)))

-- Terms that are skipped change nothing.
skip : (fq fr : Bool) (q r : Row Blank) {k : ℕ} {t : Row Blank} → Terms k t → run fq fr (at k q) (t ++ r) ≡ run fq fr (at 0 q) r
skip fq fr q r none = refl
skip fq fr q r (more p t) = skip fq fr q r t

skipping : (fq fr : Bool) (q r : Row Blank) {k : ℕ} {t : Row Blank} → Terms k t → T (done (run fq fr (at 0 q) r)) → T (done (run fq fr (at k q) (t ++ r)))
skipping fq fr q r t h = subst (λ s. T (done s)) (sym (skip fq fr q r t)) h

complete : (fq fr : Bool) {q r : Row Blank} → Match fq fr q r → T (done (run fq fr (at 0 q) r))
complete fq fr end = tt
complete fq fr (both {c = vari blank} x) = complete fq fr x
complete fq fr (both {c = symb c} {q} {r} x) = pass fq fr (eqb c c) (at 0 q) r (eqb_refl c) (complete fq fr x)
complete fq fr (left {t = []} h w x) = absurd (not_empty w)
complete fq fr (left {t = vari blank ∷ t} {q} {r} h w x) = skipping fq fr q r (arguments w) (complete fq fr x)
complete fq fr (left {t = symb c ∷ t} {q} {r} h w x) = pass fq fr fq (at (c / 4096) q) (t ++ r) h (skipping fq fr q r (arguments w) (complete fq fr x))
complete fq fr (right {t = []} h w x) = absurd (not_empty w)
complete fq fr (right {t = vari blank ∷ t} {q} {r} h w x) = rw (none_empty (arguments w)) (complete fq fr x)
complete fq fr (right {t = symb c ∷ t} {q} {r} h w x) = pass fq fr fr (at 0 (past (c / 4096) (t ++ q))) r h (rw (past_terms q (arguments w)) (complete fq fr x))

pub machine : (fq fr : Bool) (n : ℕ) (q r : Row Blank) → Terms n q → Terms n r → T (done (run fq fr (at 0 q) r)) ↔ Match fq fr q r
machine fq fr n q r wq wr = (λ h. whole (sound fq fr r 0 n q wq (recount (sym (zero-add n)) wr) h), λ x. complete fq fr x)

-- The state depends only on the cells read: after p and then r it is the state after r from the state after p.
pub run_append : (fq fr : Bool) (s : State) (p r : Row Blank) → run fq fr s (p ++ r) ≡ run fq fr (run fq fr s p) r
run_append fq fr s [] r = refl
run_append fq fr s (c ∷ p) r = run_append fq fr (step fq fr c s) p r

abbrev pub AllProper : Row Blank → Type 0
AllProper [] = Unit {0}
AllProper (c ∷ s) = Proper c × AllProper s

-- What is accepted is whole: no beginning of a term is, and nothing longer than one.
accepted_count : (fq fr : Bool) (r : Row Blank) (k n : ℕ) (q : Row Blank) → AllProper r → Terms n q → T (done (run fq fr (at k q) r)) → Terms (k + n) r
accepted_count fq fr [] zero n [] pr wq h = recount (sym (zero-add n)) wq
accepted_count fq fr [] zero n (d ∷ q) pr wq h = absurd h
accepted_count fq fr [] (suc k) n q pr wq h = absurd h
accepted_count fq fr (c ∷ r) (suc k) n q pr wq h =
    recount (sym (suc-add k n)) (more pr.0 (recount (add_assoc (arity c) k n) (accepted_count fq fr r (arity c + k) n q pr.1 wq h)))
accepted_count fq fr (c ∷ r) zero n [] pr wq h = absurd (run_failed fq fr r h)
accepted_count fq fr (vari x ∷ r) zero n (vari y ∷ q) pr wq h =
    let a = open_row wq in
    recount (sym (zero-add n ∙ a.is)) (more tt (accepted_count fq fr r 0 a.count q pr.1 (recount (zero-add a.count) a.forms) h))
accepted_count fq fr (symb c ∷ r) zero n (vari y ∷ q) pr wq h =
    let w = passed fq fr fq (at (c / 4096) q) r h in
    let a = open_row wq in
    recount (sym (zero-add n ∙ a.is)) (more pr.0 (accepted_count fq fr r (c / 4096) a.count q pr.1 (recount (zero-add a.count) a.forms) w.1))
accepted_count fq fr (vari x ∷ r) zero n (symb d ∷ q) pr wq h =
    let w = passed fq fr fr (at 0 (past (d / 4096) q)) r h in
    let a = open_row wq in
    let k = cut q (d / 4096) a.count a.forms in
    recount (sym (zero-add n ∙ a.is)) (more tt (accepted_count fq fr r 0 a.count (past (d / 4096) q) pr.1 (rw k.skips k.backs) w.1))
accepted_count fq fr (symb c ∷ r) zero n (symb d ∷ q) pr wq h =
    let w = passed fq fr (eqb d c) (at 0 q) r h in
    let a = open_row wq in
    let k : ℕ = d / 4096 + a.count in
    let i = accepted_count fq fr r 0 k q pr.1 a.forms w.1 in
    recount (sym (zero-add n ∙ a.is)) (more pr.0 (recount (zero-add k ∙ ap (λ (x : ℕ). x / 4096 + a.count) (eqb→eq d c w.0)) i))

pub accepted_whole : (fq fr : Bool) (q r : Row Blank) → Terms 1 q → AllProper r → T (done (run fq fr (at 0 q) r)) → Terms 1 r
accepted_whole fq fr q r wq pr h = recount (zero-add 1) (accepted_count fq fr r 0 1 q pr wq h)
