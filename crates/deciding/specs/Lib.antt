-- Tests, values picked by them, and what they decide.
pub mod Deciding
