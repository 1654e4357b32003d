pub mod Bytes
pub mod Naming
pub mod Climbing
pub mod Hierarchies
