-- The check: what it promises, what the walk asks, how arrays hold the walk.
pub mod Wanted
pub mod State
