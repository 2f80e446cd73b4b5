pub mod Planned
pub mod Importing
