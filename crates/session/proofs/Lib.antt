-- Laws that join what the calls promise to the definitions of specs/.
pub mod Answering
pub mod Reading
pub mod Responding
