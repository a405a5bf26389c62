-- The code's decimals in the rules' words, and the bytes that a number's text is gathered in.
pub mod Said
pub mod Room
