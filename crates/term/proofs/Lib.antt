-- Laws that join the code's numbers to the definitions of specs/.
pub mod Turns
pub mod Spots
-- the machine decides the four questions, and the eleven cases hold
pub mod Meaning
pub mod Examples
