-- Laws that join the code's numbers to the definitions of specs/; and in `Cases`, `Once` and `Entering` the laws that go with the modules
-- of these names in specs/ and rest on how `entry_in` computes.
pub mod Hashing
pub mod Using
pub mod Running
pub mod Indexing
pub mod Writing
pub mod Cases
pub mod Once
pub mod Entering
