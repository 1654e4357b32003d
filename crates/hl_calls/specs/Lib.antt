pub mod Calls
pub mod Counting
pub mod Growths
pub mod Residents
pub mod Trees
