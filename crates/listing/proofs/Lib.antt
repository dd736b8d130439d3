-- Laws that join the code's steps to the definitions of specs/.
pub mod Taking
pub mod Pairing
