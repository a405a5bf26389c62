-- Laws that the proofs of the code cite.
pub mod Joins
pub mod ColourLaws
pub mod WeightLaws
pub mod PlaceLaws
pub mod SizeLaws
pub mod CssLaws
pub mod TagLaws
pub mod AnchorLaws
