pub mod Directories
pub mod Files
pub mod Needs
pub mod Ranges
pub mod Reading
pub mod Writing
