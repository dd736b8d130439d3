-- Each field passed is the term's cell of the same index, or zero.
use Rattle.std.proofs.Common.{◌≡◌, ◌*◌, length, get_or}
use Rattle.layout.specs.Layout.{term_words}
use Rattle.bits.specs.Packed.{fields}
use Rattle.book.specs.Filling.{Filled}
use Rattle.book.proofs.record.store.Given as goal

abbrev pub invariant-loop-i : goal.invariant-loop-i
invariant-loop-i l = (length l.words ≡ term_words) × Filled (fields l.words) (4 * l.i) (λ k. get_or l.term k 0)
