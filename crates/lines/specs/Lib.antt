-- The machine's state and operations in the rules' words.
pub mod Said
