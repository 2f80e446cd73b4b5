pub mod Fronts
pub mod Planned
pub mod Named
