-- What a step that is done at once says.
pub mod Quick
