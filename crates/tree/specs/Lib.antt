-- What is promised of the tree.
pub mod Promises
-- The law of planting.
pub mod Plant
-- Between the functions of this crate.
pub mod Needs
