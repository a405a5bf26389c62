-- What stands at a place of some bytes, and their fields one after the other.
pub mod FieldAt
pub mod Walk
