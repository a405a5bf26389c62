-- What the first walk answers.
pub mod Painted
pub mod Told
pub mod Beside
pub mod Walks
pub mod Outcomes
