-- What a writer is.
pub mod Near
pub mod Held
pub mod InC
