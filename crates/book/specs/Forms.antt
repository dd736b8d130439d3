-- Blank forms as rows of numbers: no whole term's begins another's, and they count the same nodes.
use Rattle.std.specs.Prelude.{◌≡◌, refl, List, [], ◌∷◌, ◌++◌, map, Bool, true, false, ℕ, ◌≤◌, ◌<◌, eqb, ltb}
use Rattle.std.proofs.Common.{sym, ap, ◌∙◌, append-nil, arith, ltb-true, ltb-false, ne_eqb, eq-eqb}
use Rattle.deciding.specs.Deciding.{pick}
use Rattle.term.specs.Cells.{symb, Row, Blank, star, Terms, blank_of, blank_form, number_of}
use Rattle.term.specs.Beginnings.{same_cell, node_count}
use Rattle.term.specs.Counting.{nodes_map, cons_eq}
use Rattle.term.specs.Preorder.{same_rest}
use Rattle.shape.specs.NodeCount.{node_count_is}
use Rattle.book.specs.Memory.{blank_number, form_of}

-- a number is a symbol's or a variable's
pub data Side (c : ℕ) : Type 0 where
  symbol : c < 32768 → blank_of c ≡ symb c → blank_number c ≡ c → Side c
  variable : 32768 ≤ c → blank_of c ≡ star → blank_number c ≡ 32768 → Side c

pub side : (c : ℕ) → Side c
side c = go (ltb c 32768) refl
  where
    go : (b : Bool) → ltb c 32768 ≡ b → Side c
    go true e = let s : blank_of c ≡ symb c = ap (λ b. pick b (symb c) star) e in symbol (ltb-true c 32768 e) s (ap number_of s)
    go false e = let s : blank_of c ≡ star = ap (λ b. pick b (symb c) star) e in variable (ltb-false c 32768 e) s (ap number_of s)

-- the blank of a blank is the blank
blank_twice : (c : ℕ) → blank_of (blank_number c) ≡ blank_of c
blank_twice c = go (side c)
  where
    go : Side c → blank_of (blank_number c) ≡ blank_of c
    go (symbol h s n) = ap blank_of n
    go (variable h s n) = ap blank_of n ∙ sym s

pub form_row : (t : List ℕ) → map blank_of (form_of t) ≡ blank_form t
form_row [] = refl
form_row (c ∷ t) = cons_eq (blank_twice c) (form_row t)

map_append : {A B : Type 0} (f : A → B) (a b : List A) → map f (a ++ b) ≡ map f a ++ map f b
map_append f [] b = refl
map_append f (x ∷ a) b = cons_eq refl (map_append f a b)

map_nil : {A B : Type 0} (f : A → B) (a : List A) → map f a ≡ [] → a ≡ []
map_nil f [] e = refl
map_nil f (x ∷ a) e = absurd (let z : ◌≡◌ {A = ℕ} 0 1 = cc in omega arith)

pub form_free : (a b : List ℕ) → Terms 1 (blank_form a) → Terms 1 (blank_form b) → (s : List ℕ) → form_of a ++ s ≡ form_of b → s ≡ []
form_free a b wa wb s e =
    let rows : blank_form a ++ map blank_of s ≡ blank_form b ++ [] =
    ap (λ (z : Row Blank). z ++ map blank_of s) (sym (form_row a)) ∙ sym (map_append blank_of (form_of a) s) ∙ ap (map blank_of) e ∙ form_row b
    ∙ sym (append-nil (blank_form b)) in
    map_nil blank_of s (same_rest wa wb rows)

-- two numbers are the same cell of a blank form
same_blank : ℕ → ℕ → Bool
same_blank a b = eqb (blank_number a) (blank_number b)

blank_cells : (a b : ℕ) → same_cell (blank_of a) (blank_of b) ≡ same_blank a b
unfolding same_blank
blank_cells a b = go (side a) (side b)
  where
    go : Side a → Side b → same_cell (blank_of a) (blank_of b) ≡ eqb (blank_number a) (blank_number b)
    go (symbol h s n) (symbol k t m) = rw (s, t)
    go (symbol h s n) (variable k t m) = rw (s, t) (sym (ne_eqb a 32768 (λ e. omega arith)))
    go (variable h s n) (symbol k t m) = rw (s, t) (sym (ne_eqb 32768 b (λ e. omega arith)))
    go (variable h s n) (variable k t m) = rw (s, t) (sym (eq-eqb 32768 32768 refl))

-- the node count, over numbers
pub count_forms : (ts : List (List ℕ)) → node_count ts ≡ node_count_is (map form_of ts)
unfolding same_blank
count_forms ts = nodes_map same_blank same_cell blank_of blank_cells ts ∙ sym (nodes_map same_blank eqb blank_number (λ a b. refl) ts)
