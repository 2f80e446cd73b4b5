pub mod SystemNames
pub mod Ranges
pub mod Digits
pub mod Asking
