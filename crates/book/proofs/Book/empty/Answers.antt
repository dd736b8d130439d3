-- Memory of the right length is filled with zeros; other memory is as it was.
use Rattle.std.proofs.Common.{refl, ap, ◌∙◌, ℕ, replicate}
use Rattle.book.proofs.Book.empty.Goals as goal

pub returns : goal.returns
returns c = record {
  made = λ e. (refl, c.fill.ensures.after (λ y e. e) ∙ ap (λ (n : ℕ). replicate n 0) e);
  refused = λ n. absurd (n c.if-m-ne-WORDS.false);
}
