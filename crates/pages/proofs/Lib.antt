-- Laws that the proofs of the code cite.
pub mod Places
pub mod EachOf
pub mod OfLeaves
pub mod OfTrees
pub mod Going
pub mod LeafLaws
pub mod ShortTexts
pub mod WalkLaws
pub mod WholeLaws
