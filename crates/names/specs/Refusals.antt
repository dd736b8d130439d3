-- The reference's number for each refusal of a call on a table.
use Rattle.std.specs.Prelude.{ℕ}
pub use Rattle.names.specs.declared.refusal.Refusal.{Refusal}
pub use Rattle.names.specs.declared.refusal.Refusal.TheVariants.{NoTable, NoName, NoSlot, NoNumber}

abbrev pub number_of_refusal : Refusal → ℕ
number_of_refusal NoTable = 1
number_of_refusal NoName = 11
number_of_refusal NoSlot = 12
number_of_refusal NoNumber = 13
