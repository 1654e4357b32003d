pub mod NameCounts
pub mod NewNodes
pub mod Removals
