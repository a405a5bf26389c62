-- Layout by the bytes of a file.
pub mod LaidIn
pub mod Stretches
