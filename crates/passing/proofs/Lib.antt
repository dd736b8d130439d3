-- Why the code does what it promises.
pub mod Downing
pub mod Ruling
pub mod Along
pub mod Ending
