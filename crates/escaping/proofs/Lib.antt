-- Laws that the proofs of the code cite.
pub mod EscapeLaws
pub mod RunLaws
pub mod ReturnLaws
