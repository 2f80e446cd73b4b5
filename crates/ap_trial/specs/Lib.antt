pub mod Draws
pub mod TrialInputs
pub mod Folds
pub mod Summaries
pub mod Trials
pub mod Refusals
pub mod InputFolds
