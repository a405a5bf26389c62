-- The rules give the recorded answers.
pub mod Held
