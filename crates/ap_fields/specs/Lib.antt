pub mod Fields
pub mod Bytes
pub mod Granules
pub mod FirstFault
pub mod Readings
pub mod Structures
