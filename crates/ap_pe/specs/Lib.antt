pub mod Format
pub mod PeReading
pub mod Stages
pub mod Looks
pub mod Sections
pub mod Written
pub mod Claims
pub mod Linked
