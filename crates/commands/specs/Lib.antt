-- Commands and records as cells: what they say, and how a record is written.
pub mod Records
pub mod Writing
pub mod Kinds
pub mod Words
pub mod Reader
pub mod Commands
pub mod Laws
