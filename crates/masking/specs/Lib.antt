-- What the code says besides the words of `pairs`.
pub mod Value
pub mod Off
pub mod Finding
pub mod Answered
