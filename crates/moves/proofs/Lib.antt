-- Theorems about a writer's step on the lent bytes.
pub mod Closing
pub mod Codes
pub mod Carried
pub mod Ways
pub mod Allowed
pub mod Shows
pub mod Shallow
pub mod Simulation
pub mod Runs
pub mod Styles
pub mod CallsOf
pub mod InBytes
pub mod Promises
pub mod Open
pub mod Examples
