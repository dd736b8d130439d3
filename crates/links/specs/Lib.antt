-- The words of the tree, and the way along siblings.
pub mod Words
pub mod Limits
pub mod Siblings
