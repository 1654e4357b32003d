pub mod Tally
pub mod Counting
