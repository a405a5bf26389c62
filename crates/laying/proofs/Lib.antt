-- The laws behind layout beside a file.
pub mod Layouts
pub mod PaintedLaws
pub mod ShownLaws
pub mod Places
pub mod ChoiceLaws
pub mod LeafLaws
pub mod Passing
pub mod StretchLaws
pub mod Clears
pub mod NodeLaws
pub mod FragmentLaws
pub mod BlockLaws
pub mod WholeFragments
pub mod WholeLaws
pub mod Determined
