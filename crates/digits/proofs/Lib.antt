-- Laws of the texts of numbers, and of digits that are gathered from the back.
pub mod Figures
pub mod Filling
pub mod Gathered
pub mod Determined
