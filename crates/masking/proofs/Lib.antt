-- Laws of making a mask.
pub mod VeilLaws
pub mod GoingLaws
pub mod MaskLaws
pub mod FindingLaws
pub mod MatchLaws
pub mod PairLaws
pub mod ReadingLaws
