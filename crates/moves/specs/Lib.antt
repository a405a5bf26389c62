-- A writer's step on the lent bytes, in reading order.
pub mod Style
pub mod Opened
pub mod Plans
pub mod Stepped
pub mod Asked
pub mod Calls
