-- The most general term of a form is read as a whole term: its blanks are the variables 0, 1, 2 .., each new where it stands.
use Rattle.std.specs.Prelude.{◌≡◌, refl, Bool, true, false, ℕ, zero, suc, ◌+◌, ◌-◌, ◌/◌, ◌%◌, ◌≤◌, ltb, length, Ok, Result}
use Rattle.std.proofs.Common.{sym, ap, ap₂, ◌∙◌, arith, ltb-true, ltb-false, le-ltb}
use mathlib.Core.List.Memᴰ
use mathlib.Core.List.{List, [], ◌∷◌, ◌++◌, reverse, reverse-cons, append_assoc}
use Rattle.std.proofs.lemmas.Bool.{lt-leb}
use Rattle.deciding.specs.Deciding.{pick}
use Rattle.term.specs.declared.reading.Fault.{Fault}
use Rattle.term.specs.declared.reading.Wants.{Wants}
use Rattle.term.specs.Reading.{calls_for, takes, go_on, read_from, read_term}
use Rattle.recorded.specs.WayCells.{blanks_low}
use Rattle.recorded.specs.Way.{wants, blanks, numbered, Low}

-- a row is read backwards, as the walk has it
abbrev pub general : List ℕ → List ℕ
general [] = []
general (c ∷ r) = numbered c (blanks r) ∷ general r

-- something is wanted at each place of the row
abbrev pub Opened : List ℕ → Type 0
Opened [] = Unit {0}
Opened (c ∷ r) = (¬ (wants r ≡ 0)) × Opened r

-- a symbol is taken as it is, and a blank as the next variable
takes_numbered : (c k : ℕ) → c ≤ 32768 → k ≤ 15 → takes k (numbered c k) ≡ calls_for (c / 4096 % 8) (c / 32768 + k)
unfolding takes
takes_numbered c k h l = go (ltb c 32768) refl
  where
    go : (b : Bool) → ltb c 32768 ≡ b → takes k (pick b c (c + k)) ≡ calls_for (c / 4096 % 8) (c / 32768 + k)
    go true e = let q = ltb-true c 32768 e in rw e (ap₂ calls_for (omega arith) (omega arith))
    go false e =
        let q = ltb-false c 32768 e in
        rw (le-ltb (c + k) 32768 (omega arith), lt-leb 36864 (c + k) (omega arith), le-ltb 15 ((c + k) - 32768) (omega arith))
        (rw (le-ltb k ((c + k) - 32768) (omega arith)) (rw (le-ltb ((c + k) - 32768) k (omega arith)) (ap₂ calls_for (omega arith) (omega arith))))

read_one : (left w known place c a k : ℕ) (rest : List ℕ) → takes known c ≡ calls_for a k
    → read_from (suc left) (suc w) known place (c ∷ rest) ≡ read_from left (a + w) k (suc place) rest
unfolding read_from
read_one left w known place c a k rest e = ap (λ (t : Result Wants Fault). go_on t place (λ arity met. read_from left (arity + w) met (suc place) rest)) e

-- the cells of a row are read, and then what comes behind them
reads_row : (r rest : List ℕ) → Low r → Opened r → length r ≤ 15
    → read_from 32 1 0 0 (reverse (general r) ++ rest) ≡ read_from (32 - length r) (wants r) (blanks r) (length r) rest
reads_row [] rest h o l = refl
reads_row (c ∷ r) rest h o l =
    ap (λ (z : List ℕ). read_from 32 1 0 0 (z ++ rest)) (reverse-cons (numbered c (blanks r)) (general r))
    ∙ ap (read_from 32 1 0 0) (append_assoc (reverse (general r)) (numbered c (blanks r) ∷ []) rest)
    ∙ reads_row r (numbered c (blanks r) ∷ rest) (λ d i. h d (Memᴰ.tail i)) o.1 (omega arith)
    ∙ one (32 - length r) (wants r) (31 - length r) (wants r - 1) (omega arith) (let q = o.0 in omega arith) (omega arith)
  where
    taken : takes (blanks r) (numbered c (blanks r)) ≡ calls_for (c / 4096 % 8) (c / 32768 + blanks r)
    taken = let q = blanks_low r (λ d i. h d (Memᴰ.tail i)) in takes_numbered c (blanks r) (h c (Memᴰ.head refl)) (omega arith)

    one : (left w left' w' : ℕ) → left ≡ suc left' → w ≡ suc w' → 32 - suc (length r) ≡ left'
        → read_from left w (blanks r) (length r) (numbered c (blanks r) ∷ rest)
        ≡ read_from (32 - suc (length r)) ((c / 4096 % 8 + w) - 1) (c / 32768 + blanks r) (suc (length r)) rest
    one left w left' w' e f g =
        ap₂ (λ (a b : ℕ). read_from a b (blanks r) (length r) (numbered c (blanks r) ∷ rest)) e f
        ∙ read_one left' w' (blanks r) (length r) (numbered c (blanks r)) (c / 4096 % 8) (c / 32768 + blanks r) rest taken
        ∙ ap₂ (λ (a b : ℕ). read_from a b (c / 32768 + blanks r) (suc (length r)) rest) (sym g) (omega arith)

pub general_whole : (r rest : List ℕ) → Low r → Opened r → length r ≤ 15 → wants r ≡ 0 → read_term (reverse (general r) ++ rest) ≡ Ok (length r)
unfolding read_term read_from
general_whole r rest h o l z = reads_row r rest h o l ∙ done (32 - length r) (wants r) z
  where
    done : (left w : ℕ) → w ≡ 0 → read_from left w (blanks r) (length r) rest ≡ Ok (length r)
    done zero zero e = refl
    done (suc left) zero e = refl
    done zero (suc w) e = absurd (omega arith)
    done (suc left) (suc w) e = absurd (omega arith)
