-- A rule's record: the way that leads to it, what is asked of it.
pub mod Way
pub mod WayCells
pub mod Promises
pub mod General
