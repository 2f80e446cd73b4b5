pub mod Format
pub mod MachReading
pub mod Stages
pub mod Looks
pub mod Segments
pub mod Written
pub mod Linked
pub mod ReadBack
