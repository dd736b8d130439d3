-- What is one by what `enters_so` says.
use Rattle.std.specs.Prelude.{◌≡◌, refl, List, ℕ, Result}
use Rattle.names.specs.Calls.{Entry, Refusal, table_after}
use Rattle.names.specs.Cases.{Given}
use Rattle.names.specs.Once.{enters_once}
use Rattle.names.proofs.Cases.{enters_so}

-- So the condition of an answer holds of one answer only.
pub given_once : {t name : List ℕ} (a b : Result Entry Refusal) → Given t name a → Given t name b → a ≡ b
given_once {t} {name} a b p q = (enters_once a b (table_after t name a) (table_after t name b) (enters_so a p refl) (enters_so b q refl)).0
