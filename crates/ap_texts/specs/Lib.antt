pub mod PlanTexts
pub mod CauseNames
