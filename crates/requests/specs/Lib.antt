-- The request at a place.
pub mod Requests
