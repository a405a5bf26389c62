-- That the fields one after the other are the file's, and what follows for masks and pairs.
pub mod OfFiles
pub mod MaskBytes
pub mod Masks
pub mod Pairs
pub mod Unique
