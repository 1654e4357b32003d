pub mod Outcomes
pub mod Limits
pub mod Documents
