pub mod OctalText
pub mod OctalReading
pub mod OctalSteps
pub mod Statement
pub mod Embedded
pub mod DdEffect
pub mod DdPlace
