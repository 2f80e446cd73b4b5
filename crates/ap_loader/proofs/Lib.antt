pub mod Quotes
pub mod HeaderLemmas
pub mod HeaderPlans
