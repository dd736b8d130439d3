-- Why the code does what it promises.
pub mod Storing
pub mod Removing
pub mod Signs
pub mod Adding
