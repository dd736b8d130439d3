-- What the exported functions promise, and what follows from it.
pub mod Numbers
-- how the demands speak of a batch
pub mod Stages
pub mod NewNodes
pub mod Calls
-- why they hold
pub mod Refusals
pub mod AtCommand
pub mod Naming
pub mod Typing
-- the demands
pub mod Demands
pub mod Wrong
