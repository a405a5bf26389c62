-- Theorems about a writer's steps.
pub mod Open
pub mod Examples
pub mod Checked
pub mod BytesLaws
pub mod Joined
pub mod Ways
pub mod Told
pub mod Longer
pub mod Back
pub mod Loose
pub mod Accepted
