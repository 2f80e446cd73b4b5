pub mod Lengths
mod Given
mod Moves
mod Plans
pub mod Copied
