pub mod Asking
pub mod Order
pub mod Demand2
pub mod Walk
pub mod Promises
pub mod Listing
pub mod Bare
