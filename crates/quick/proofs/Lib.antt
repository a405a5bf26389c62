-- Laws of steps that are done at once.
pub mod PlanDone
pub mod TextLaws
pub mod StepLaws
