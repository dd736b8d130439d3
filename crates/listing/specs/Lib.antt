-- What the crate's contracts mean. Read in this order; the modules after `Promises` are laws, and change no meaning.
pub mod Listing
pub mod Examples
pub mod Digits
pub mod Hex
pub mod Reading
pub mod Sizes
pub mod Promises
