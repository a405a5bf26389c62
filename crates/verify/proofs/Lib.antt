-- Laws of the file check: tags, values, headers, the walk one field at a time, and what is left of it.
pub mod TagLaws
pub mod Parts
pub mod SaidLaws
pub mod SeenLaws
pub mod ContentLaws
pub mod FrontLaws
pub mod ValueLaws
pub mod WalkLaws
pub mod RestLaws
pub mod LoopLaws
pub mod TextLaws
pub mod GlanceLaws
pub mod CheckLaws
pub mod Verdicts
pub mod Determined
