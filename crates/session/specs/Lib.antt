-- What the program prints.
pub mod Session
