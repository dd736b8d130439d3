-- One rule more, one rule less: what is promised, and why memory stays right.
pub mod Promises
pub mod Facts
pub mod Change
