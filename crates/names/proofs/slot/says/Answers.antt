-- Slices are equal where their bytes are.
use Rattle.std.proofs.Common.{sym, ◌∙◌}
use Rattle.std.proofs.lemmas.Slice.Eq.{slice_eq-Decides}
use Rattle.std.proofs.lemmas.Bool.Decides.{Decides-eqb}
use Rattle.names.proofs.Using.{says_where}
use Rattle.names.proofs.slot.says.Goals as goal

pub returns-then-from-name : goal.returns-then-from-name
returns-then-from-name c = says_where _ _ _ _ (slice_eq-Decides Decides-eqb _ _ _ c.eq.ensures) (sym c.from.ensures ∙ c.if-from-name.true) c.requires.0 c.requires.1
