pub mod Framed
pub mod PartReads
pub mod SegmentTables
pub mod LinkedHeaders
pub mod Programs
pub mod Protections
pub mod Walks
pub mod HeaderReads
