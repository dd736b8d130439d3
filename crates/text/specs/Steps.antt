-- Naming token by token: the first is taken where nothing is refused, then the others; and there are as many cells as tokens.
use Rattle.std.specs.Prelude.{◌≡◌, List, [], ◌∷◌, Bool, ℕ, suc, ◌+◌, length}
use Rattle.std.proofs.Math.Path.{refl}
use Rattle.std.proofs.Common.{sym, ap, ◌∙◌}
use Rattle.std.proofs.Math.Bool.{true, false}
use borrow.Author.Tests.{eqb-true, eq-eqb}
use Rattle.std.proofs.Math.Dec.{eqb}
use Rattle.text.specs.Term.{Token, shape_of}
use Rattle.text.specs.Naming.{number_of, TokenCells, cell_before, naming}

module _ (names variables : List (List ℕ)) (token : Token) (tokens : List Token) where
  pub first_taken : (naming names variables (token ∷ tokens)).refusal ≡ 0 → (number_of names variables token).refusal ≡ 0
  unfolding naming
  first_taken e = go (eqb (number_of names variables token).refusal 0) refl
    where
      go : (b : Bool) → eqb (number_of names variables token).refusal 0 ≡ b → (number_of names variables token).refusal ≡ 0
      go true q = eqb-true (number_of names variables token).refusal 0 q
      go false q = rw q at e

  pub then_others : (number_of names variables token).refusal ≡ 0
      → naming names variables (token ∷ tokens)
      ≡ cell_before (shape_of token + (number_of names variables token).number)
      (naming (number_of names variables token).names (number_of names variables token).variables tokens)
  unfolding naming
  then_others e = rw (eq-eqb (number_of names variables token).refusal 0 e)

pub cells_many : (names variables : List (List ℕ)) (tokens : List Token) → (naming names variables tokens).refusal ≡ 0
    → length (naming names variables tokens).cells ≡ length tokens
unfolding naming
cells_many names variables [] e = refl
cells_many names variables (token ∷ tokens) e =
    let z = first_taken names variables token tokens e in
    let q = then_others names variables token tokens z in
    let n = number_of names variables token in
    rw q (ap suc (cells_many n.names n.variables tokens (sym (ap (λ (x : TokenCells). x.refusal) q) ∙ e)))
