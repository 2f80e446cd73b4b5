pub mod Embedded
pub mod ApeReading
pub mod Laws
