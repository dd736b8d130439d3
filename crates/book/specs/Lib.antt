-- The book: the rules, what memory holds, what the functions promise; then why.
pub mod Rules
pub mod Memory
pub mod Promises
pub mod Gathered
pub mod Forms
pub mod Holding
pub mod Facts
-- what the code reads and writes
pub mod Parts
pub mod Filling
pub mod Looking
pub mod Placing
