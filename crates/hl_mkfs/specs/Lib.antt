pub mod Parts
pub mod Sites
pub mod Stops
pub mod Stages
pub mod Answers
