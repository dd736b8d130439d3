-- What the crate's contracts mean. `Name`, `Table`, `Refusals` and `Calls` are the reference's words, and `Examples` tries them. The modules
-- after these change no meaning: `Cases`, `Slots`, `Once` and `Entering` are laws, `Index` says how names are found, `Leaves` what the
-- functions below the calls promise.
pub mod Name
pub mod Table
pub mod Refusals
pub mod Calls
pub mod Cases
pub mod Examples
pub mod Slots
pub mod Once
pub mod Entering
pub mod Index
pub mod Leaves
