-- That an answer's number and place are determined; that an answer turned into them says the same.
pub mod Determined
pub mod Turned
