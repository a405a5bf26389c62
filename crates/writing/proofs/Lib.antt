-- The laws of writing, for callers, and what the writing of a byte does, and of the bytes that fit.
pub mod Laws
pub mod Turns
pub mod Copies
pub mod Parts
pub mod Determined
