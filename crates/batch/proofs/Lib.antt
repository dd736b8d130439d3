-- What the proofs of the batch share.
pub mod Doing
pub mod Turning
pub mod Looping
