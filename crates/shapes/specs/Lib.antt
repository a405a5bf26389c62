-- What the code's layouts say in the rules' words.
pub mod Shapes
