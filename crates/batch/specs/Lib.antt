-- The batch: what a command does, what a batch is, what the functions promise.
pub mod Effects
pub mod Run
pub mod Stopping
pub mod Promises
pub mod Laws
