-- Laws that the proofs of the code cite.
pub mod Places
pub mod Colours
pub mod Lines
pub mod Tags
pub mod Runs
pub mod OfLeaves
