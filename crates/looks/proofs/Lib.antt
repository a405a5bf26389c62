-- Windows over a text, and what calm bytes and those that lack one are.
pub mod Windows
pub mod CalmBytes
