-- What the proofs share.
pub mod Beginning
