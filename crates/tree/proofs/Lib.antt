-- Why the code does what it promises.
pub mod Stores
pub mod Walking
pub mod Growing
pub mod Trimming
