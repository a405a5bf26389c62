-- What an accepted answer says of a page, and what printing leaves.
pub mod Shown
pub mod Asked
