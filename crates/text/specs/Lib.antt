-- What the crate's contracts mean. `Term`, `Naming`, `Text` and `Promises` are the reference's words, to be read in this order, and
-- `Examples` tries them. `Leaves` is what the functions below the call promise, `Steps` naming token by token.
pub mod Term
pub mod Naming
pub mod Text
pub mod Promises
pub mod Examples
pub mod Steps
pub mod Refusals
pub mod Leaves
