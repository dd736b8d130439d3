-- What the crate's contracts mean. Read in this order; the modules after `Examples` are laws, and change no meaning.
pub mod Cells
pub mod Reading
pub mod Questions
pub mod Beginnings
pub mod Machine
pub mod Steps
pub mod Examples
pub mod Preorder
pub mod Matching
pub mod Meaning
pub mod Whole
pub mod Distinct
pub mod Counting
