-- What the C names need (that an answer's number fits 64 bits and loses nothing), and what follows from the entries' contracts: demand 3, and that no
-- second outcome satisfies one.
pub mod Fits
pub mod WriteLaws
pub mod WrittenInC
pub mod Written
pub mod Demand3
pub mod EveryWidth
pub mod WrongPrograms
pub mod Masking
