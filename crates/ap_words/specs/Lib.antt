pub mod Names
pub mod Systems
pub mod Numbers
pub mod Tables
pub mod Fields
pub mod Conditions
pub mod Meaning
