-- The style record: what it says in the rules' words, and what the fields of a 16 make of it.
pub mod Said
pub mod StylesIn
pub mod WidthIn
pub mod Ran
