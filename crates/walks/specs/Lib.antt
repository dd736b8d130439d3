-- For proofs of functions that are walked by hand.
pub mod Walking
