-- Laws of the request at a place.
pub mod Laws
