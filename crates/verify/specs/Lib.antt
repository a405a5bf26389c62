-- What the file check's functions answer.
pub mod Said
pub mod Seeing
pub mod Contents
pub mod Fronts
pub mod Walked
pub mod Glanced
