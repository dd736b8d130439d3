-- Why the code computes what the contracts say.
pub mod Stores
pub mod Counting
pub mod Searching
pub mod Comparing
pub mod Numbering
