-- Laws of the writer's steps.
pub mod PlanLaws
pub mod OpenedLaws
pub mod StyleLaws
pub mod CheckLaws
pub mod BadLaws
pub mod PieceLaws
pub mod ActLaws
pub mod StepLaws
