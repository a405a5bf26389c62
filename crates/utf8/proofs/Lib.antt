-- The laws of the code's steps.
pub mod Table
pub mod Steps
pub mod Turns
pub mod Ascii
pub mod FourParts
