-- What the crate's contracts mean. `Bytes` and `Tokens` are the reference's words; `Places` is what the functions promise; `Ahead` and
-- `Laws` change no meaning.
pub mod Bytes
pub mod Tokens
pub mod Places
pub mod Ahead
pub mod Laws
