-- What the search for an opacity's decimal asks and gives.
pub mod Picked
pub mod Scaled
