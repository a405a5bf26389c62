-- From the bytes of a file to line operations, and from those to a page.
pub mod OpsIn
pub mod OneLines
pub mod Kinds
