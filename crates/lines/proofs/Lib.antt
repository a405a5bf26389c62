-- Laws of what comes before an item, and of an operation with its items.
pub mod Spaces
pub mod Steps
pub mod Determined
