-- The laws behind the search for an opacity's decimal.
pub mod PickLaws
pub mod ScaledTests
pub mod Turns
pub mod Patterns
pub mod Bounds
