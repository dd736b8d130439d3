-- What the proofs share.
-- what a command says, over any row
pub mod Laws
