-- Laws that the proofs of the code cite.
pub mod Running
pub mod Breaks
pub mod Pens
pub mod Indents
pub mod BeforeItems
pub mod NewLines
pub mod Quiet
pub mod TextLines
pub mod Verbatim
pub mod Determined
