-- Laws that the proofs of the code cite.
pub mod EverySize
pub mod Placing
pub mod Entries
pub mod TextLengths
