-- Packed words: the definitions, and the laws that callers cite.
pub mod Packed
pub mod Laws
pub mod Numbers
