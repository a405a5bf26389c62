-- A file's mask as an entry leaves it; a file and its mask, and a text of them; the fields of a file one after the other.
pub mod Masking
pub mod Pair
pub mod Flat
