-- The loops over a text's first line.
pub mod Passing
pub mod Chunks
