-- What a quick look says.
pub mod Calm
