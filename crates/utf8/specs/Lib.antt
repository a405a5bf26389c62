-- The answer of the UTF-8 check, what the code keeps of a character that has begun, and the bits of all bytes.
pub mod Answer
pub mod Owing
pub mod AllBits
