-- What it means that bytes are put into lent text; `Putting` and `Texts` have the laws.
pub mod Writing
pub mod Putting
pub mod Texts
