pub mod Fields
pub mod Machines
pub mod InputCell
pub mod ElfReading
pub mod Written
pub mod Symbols
pub mod Seen
pub mod Begun
