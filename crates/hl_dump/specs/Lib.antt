pub mod Dumps
pub mod Growing
pub mod Longer
pub mod Parsing
pub mod Reading
pub mod Sizes
