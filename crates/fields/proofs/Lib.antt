-- Laws of the field at a place, of loops over fields and of the fields of leaves.
pub mod Laws
pub mod Encoded
pub mod Spans
pub mod Loops
pub mod OfFields
pub mod Leaves
pub mod Determined
