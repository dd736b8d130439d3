-- The number of each refusal, and the place that is told with it.
use Rattle.std.specs.Prelude.{ℕ, Result, Ok, Err}
use Rattle.names.specs.Refusals.{number_of_refusal as number_of_names}
pub use Rattle.text.specs.declared.refusal.Refusal.{Refusal}
pub use Rattle.text.specs.declared.refusal.Refusal.TheVariants.{Names, SeventeenthVariable, NoCell, NoTerm, EighthArgument}

abbrev pub number_of_refusal : Refusal → ℕ
number_of_refusal (Names refusal) = number_of_names refusal
number_of_refusal SeventeenthVariable = 4
number_of_refusal (NoCell place) = 5
number_of_refusal (NoTerm place) = 20
number_of_refusal (EighthArgument place) = 21

abbrev pub place_of_refusal : Refusal → ℕ
place_of_refusal (Names refusal) = 0
place_of_refusal SeventeenthVariable = 0
place_of_refusal (NoCell place) = 0
place_of_refusal (NoTerm place) = place
place_of_refusal (EighthArgument place) = 0

-- 0 where nothing is refused.
abbrev pub refusal_of : {A : Type 0} → Result A Refusal → ℕ
refusal_of (Ok x) = 0
refusal_of (Err refusal) = number_of_refusal refusal
