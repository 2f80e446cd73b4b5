pub mod Tables
pub mod Delimiter
pub mod Script
pub mod Places
pub mod Blocks
pub mod Stands
pub mod Claims
