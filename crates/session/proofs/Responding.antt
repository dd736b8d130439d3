-- What is printed in each of the three cases of the input.
use mathlib.Core.Path.{◌≡◌, sym, ap, ap₂, subst, ◌∙◌}
use mathlib.Core.List.{List}
use mathlib.Core.Bool.{Bool, true, false}
use Prim.Native.Nat.{ℕ, ◌/◌, ◌%◌, ◌≤◌, ◌<◌}
use borrow.Author.Tests.{lt-ltb, le-ltb, eq-eqb, ne_eqb}
use lib.Dec.{eqb}
use lib.ListN.{length, take}
use lib.Seq.{sets, sets-eq, take_at}
use native.Mathlib.Omega.{arith}
use Rattle.deciding.specs.Deciding.{pick}
use Rattle.listing.specs.Listing.{bad_input, cells_in}
use Rattle.listing.specs.Sizes.{cells_in_size}
use Rattle.writing.specs.Writing.{Front}
use Rattle.session.specs.Session.{answer, session}

module _ (input : List ℕ) where
  pub too_long : 8192 < length input → bad_input ≡ session input
  unfolding session
  too_long h = ap (λ (x : Bool). pick x bad_input (pick (eqb (length input % 2) 0) (answer (cells_in input)) bad_input)) (sym (lt-ltb 8192 (length input) h))

  tested : (even : Bool) → length input ≤ 8192 → eqb (length input % 2) 0 ≡ even → pick even (answer (cells_in input)) bad_input ≡ session input
  unfolding session
  tested even h e = ap₂ (λ (x y : Bool). pick x bad_input (pick y (answer (cells_in input)) bad_input)) (sym (le-ltb 8192 (length input) h)) (sym e)

  pub odd : length input ≤ 8192 → ¬ (length input % 2 ≡ 0) → bad_input ≡ session input
  odd h n = tested false h (ne_eqb (length input % 2) 0 n)

  pub good : length input ≤ 8192 → length input % 2 ≡ 0 → answer (cells_in input) ≡ session input
  good h e = tested true h (eq-eqb (length input % 2) 0 e)

-- the cells read are the front of those lent
pub read : (input lent cells : List ℕ) → length input ≤ 8192 → length lent ≡ 4096 → cells ≡ sets lent 0 (cells_in input) → take (length input / 2) cells ≡ cells_in input
read input lent cells h l e =
    let n = cells_in_size input in
    ap (take (length input / 2)) (e ∙ sets-eq (cells_in input) lent 0 (omega arith)) ∙ take_at (cells_in input) _ (length input / 2) n

pub stands_as : {a b text after : List ℕ} {end : ℕ} → a ≡ b → Front a text after end → Front b text after end
stands_as {text = text} {after = after} {end = end} e s = subst (λ (l : List ℕ). Front l text after end) e s
