-- Laws that join places to what is left of a text, byte by byte.
pub mod Steps
