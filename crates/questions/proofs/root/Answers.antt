-- The root is what the tree's head names, and every word of the memory is one.
use Rattle.std.proofs.Common.{ℕ, ap}
use Rattle.questions.proofs.root.Goals as goal

pub returns : goal.returns
returns c = record {
  words = λ i. (c.type_inv.m i).fits;
  is = ap (λ (x : ℕ). record { link = x; skip = 0; place = 0 }) c.first_of-first.ensures;
}
