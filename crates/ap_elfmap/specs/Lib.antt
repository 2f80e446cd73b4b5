pub mod ElfPlans
pub mod Laws
