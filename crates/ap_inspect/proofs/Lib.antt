pub mod Takens
pub mod OneReport
