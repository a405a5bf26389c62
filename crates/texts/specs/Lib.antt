-- A text's first line.
pub mod FirstLine
