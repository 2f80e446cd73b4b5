pub mod MachPlans
pub mod Steps
pub mod Laws
