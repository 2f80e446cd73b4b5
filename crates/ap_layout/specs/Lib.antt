pub mod Areas
pub mod Twins
pub mod Headers
pub mod MachPlaces
pub mod Positions
pub mod Apart
pub mod Stacks
pub mod Jobs
