pub mod Outcomes
pub mod StepLaws
