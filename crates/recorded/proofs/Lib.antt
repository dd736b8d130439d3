-- Why a record is found right.
pub mod Behind
pub mod Ruling
pub mod Plainly
pub mod Moving
