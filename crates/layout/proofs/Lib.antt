-- The laws behind layout.
pub mod StretchLaws
pub mod ChoiceLaws
pub mod NodeLaws
pub mod LoopLaws
pub mod AheadLaws
pub mod Counted
pub mod Rows
pub mod Nodes
pub mod OfTrees
