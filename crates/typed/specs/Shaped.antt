-- The tokens of a term that is read without a fault are one term in preorder: each name is followed by as many terms as its arity says.
use Rattle.std.specs.Prelude.{◌≡◌, refl, ◌⊎◌, List, [], ◌∷◌, ◌++◌, Bool, true, false, ℕ, zero, suc, ◌+◌, ◌-◌, ◌≤◌, ◌<◌, length, eqb}
use Rattle.std.proofs.Common.{sym, subst, inl, inr, append_assoc, arith, eqb-true, ne_eqb, length-append}
use Rattle.std.proofs.lemmas.Bool.{eqb-false}
use Rattle.deciding.specs.Deciding.{pick, true_not_false}
use Rattle.tokens.specs.Bytes.{begins, is_upper_byte, head}
use Rattle.tokens.specs.Tokens.{skip, Got, token}
use Rattle.text.specs.Term.{Token, variable, name, Start, start, no_start, name_start, start_of, After, after_of, mark, Read, read, before, term_from, term, arguments}

-- So many terms, one after another, with at most seven arguments each.
pub data TermRow : ℕ → List Token → Type 0 where
  none : TermRow 0 []
  a_variable : {n : ℕ} {word : List ℕ} {tokens : List Token} → TermRow n tokens → TermRow (suc n) (variable word ∷ tokens)
  a_name : {n : ℕ} {bytes : List ℕ} {arity : ℕ} {tokens : List Token} → arity ≤ 7 → TermRow (arity + n) tokens → TermRow (suc n) (name bytes arity ∷ tokens)

recount : {m n : ℕ} {tokens : List Token} → m ≡ n → TermRow m tokens → TermRow n tokens
recount {tokens = tokens} e t = subst (λ (k : ℕ). TermRow k tokens) e t

-- ---- how a term begins

pub data Starts (argument left : ℕ) : Start → Type 0 where
  not : {fault : ℕ} {rest : List ℕ} → ¬ (fault ≡ 0) → Starts argument left (no_start fault rest)
  word : {bytes rest : List ℕ} → ¬ (argument ≡ 8) → 0 < left → Starts argument left (start 0 (variable bytes) false rest)
  leaf : {bytes rest : List ℕ} → ¬ (argument ≡ 8) → 0 < left → Starts argument left (start 0 (name bytes 0) false rest)
  bracket : {bytes rest : List ℕ} → ¬ (argument ≡ 8) → 0 < left → Starts argument left (start 0 (name bytes 0) true rest)

by_test : {X : Type 0} (P : X → Type 0) (b : Bool) {x y : X} → (b ≡ true → P x) → (b ≡ false → P y) → P (pick b x y)
by_test P true p q = p refl
by_test P false p q = q refl

twenty : ¬ (◌≡◌ {A = ℕ} 20 0)
twenty e = omega arith

name_opens : (argument left : ℕ) → ¬ (argument ≡ 8) → 0 < left → (got : Got) → Starts argument left (name_start got)
unfolding name_start
name_opens argument left a l got =
    by_test (Starts argument left) (eqb got.fault 0)
    (λ e. by_test (Starts argument left) (eqb (head (skip got.rest)) 40) (λ q. bracket a l) (λ q. leaf a l))
    (λ e. not (eqb-false got.fault 0 e))

pub opens : (argument left : ℕ) (text : List ℕ) → Starts argument left (start_of argument left text)
unfolding start_of
opens argument left text =
    by_test (Starts argument left) (begins (head text))
    (λ b. by_test (Starts argument left) (eqb argument 8) (λ e. not (λ z. absurd (omega arith)))
    (λ e. by_test (Starts argument left) (eqb left 0) (λ f. not (λ z. absurd (omega arith)))
    (λ f. let a = eqb-false argument 8 e in
    let l : 0 < left = (let n = eqb-false left 0 f in omega arith) in
    by_test (Starts argument left) (is_upper_byte (head text)) (λ u. word a l) (λ u. name_opens argument left a l (token text)))))
    (λ b. not twenty)

-- ---- what follows an argument: only after one without a fault a comma, or no fault

follows : (fault : ℕ) (text : List ℕ) → ((after_of fault text).comma ≡ true) ⊎ ((after_of fault text).fault ≡ 0) → fault ≡ 0
unfolding after_of
follows fault text h = go (eqb fault 0) refl h
  where
    go : (b : Bool) → eqb fault 0 ≡ b → ((pick b (mark (skip text)) (record { fault = fault; comma = false; rest = text })).comma ≡ true)
        ⊎ ((pick b (mark (skip text)) (record { fault = fault; comma = false; rest = text })).fault ≡ 0) → fault ≡ 0
    go true e q = eqb-true fault 0 e
    go false e (inl q) = absurd (true_not_false q refl)
    go false e (inr q) = q

-- ---- a term, and arguments

-- A term that isn't the eighth argument stands before so many others, and takes at most the cells that are left.
abbrev OneMore : (argument left : ℕ) → Read → Type 0
OneMore argument left r = ¬ (argument ≡ 8) × (length r.tokens ≤ left) × ((n : ℕ) (others : List Token) → TermRow n others → TermRow (suc n) (r.tokens ++ others))

-- The same of arguments, with `count` before them.
abbrev SomeMore : (count left : ℕ) → Read → Type 0
SomeMore count left r =
    (length r.tokens ≤ left) × (count < r.count) × (r.count ≤ 7)
    × ((n : ℕ) (others : List Token) → TermRow n others → TermRow (r.count - count + n) (r.tokens ++ others))

from_start : (argument left : ℕ) (args : List ℕ → Read) (s : Start) → Starts argument left s
    → ((rest : List ℕ) → (args rest).fault ≡ 0 → SomeMore 0 (left - 1) (args rest)) → (term_from args s).fault ≡ 0 → OneMore argument left (term_from args s)
from_start argument left args s (not {fault} n) h e = absurd (n (rw (ne_eqb fault 0 n) at e))
from_start argument left args s (word a l) h e = (a, omega arith, λ n others t. a_variable t)
from_start argument left args s (leaf a l) h e =
    (a, omega arith, λ n others t. let z : n ≡ 0 + n = omega arith in a_name {arity = 0} (omega arith) (recount z t))
from_start argument left args s (bracket {rest = rest} a l) h e =
    let m = h rest e in
    (a, omega (arith, m.0), λ n others t. let z : (args rest).count - 0 + n ≡ (args rest).count + n = omega arith in a_name m.2 (recount z (m.3 n others t)))

module _ (count left : ℕ) (c : count ≤ 7) (one : Read) (a : After) (fine : (a.comma ≡ true) ⊎ (a.fault ≡ 0) → OneMore (count + 1) left one) (others : Read)
    (more : count + 1 ≤ 7 → others.fault ≡ 0 → SomeMore (count + 1) (left - length one.tokens) others) where
  from_argument : (b : Bool) → a.comma ≡ b → (pick b (before one.tokens others) (read a.fault one.tokens a.rest (count + 1))).fault ≡ 0
      → SomeMore count left (pick b (before one.tokens others) (read a.fault one.tokens a.rest (count + 1)))
  from_argument true q e =
      let o = fine (inl q) in
      let low : count + 1 ≤ 7 = (let n = o.0 in omega arith) in
      let m = more low e in
      let long = length-append one.tokens others.tokens in (
        omega (arith, long, o.1, m.0),
        omega (arith, m.1),
        m.2,
        λ n rest t. subst (TermRow (others.count - count + n)) (sym (append_assoc one.tokens others.tokens rest))
            (recount (omega (arith, m.1)) (o.2 (others.count - (count + 1) + n) (others.tokens ++ rest) (m.3 n rest t))),
      )
  from_argument false q e =
      let o = fine (inr e) in
      (o.1, omega arith, (let n = o.0 in omega arith), λ n rest t. recount (omega arith) (o.2 n rest t))

mutual
  unfolding term arguments

  pub term_more : (steps argument left : ℕ) (text : List ℕ) → argument ≤ 8 → (term steps argument left text).fault ≡ 0
      → OneMore argument left (term steps argument left text)
  term_more zero argument left text a e = absurd (twenty e)
  term_more (suc steps) argument left text a e =
      from_start argument left (λ rest. arguments steps 0 (left - 1) rest) (start_of argument left text) (opens argument left text)
      (λ rest f. arguments_more steps 0 (left - 1) rest (omega arith) f) e

  arguments_more : (steps count left : ℕ) (text : List ℕ) → count ≤ 7 → (arguments steps count left text).fault ≡ 0
      → SomeMore count left (arguments steps count left text)
  arguments_more zero count left text c e = absurd (twenty e)
  arguments_more (suc steps) count left text c e =
      let one = term steps (count + 1) left (skip text) in
      let a = after_of one.fault one.rest in
      from_argument count left c one a (λ h. term_more steps (count + 1) left (skip text) (omega arith) (follows one.fault one.rest h))
      (arguments steps (count + 1) (left - length one.tokens) a.rest)
      (λ low f. arguments_more steps (count + 1) (left - length one.tokens) a.rest low f) a.comma refl e
