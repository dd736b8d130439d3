-- Why the search does what it promises.
pub mod Threads
pub mod Leaps
pub mod Siblings
pub mod Leaving
pub mod Marking
pub mod Turns
pub mod Searching
pub mod Writing
