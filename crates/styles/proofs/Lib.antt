-- Laws that the proofs of the code cite.
pub mod EveryByte
pub mod Opacity
pub mod Parts
pub mod Reading
pub mod Sizes
pub mod Sound
pub mod StylesWritable
pub mod Widths
