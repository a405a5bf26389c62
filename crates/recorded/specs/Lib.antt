-- The recorded answers.
pub mod Recorded
