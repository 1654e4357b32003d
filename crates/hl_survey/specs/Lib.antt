pub mod Surveys
pub mod Pointing
pub mod Stops
