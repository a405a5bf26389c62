-- The laws of capped sums and of appending.
pub mod Appending
pub mod Determined
