pub mod Places
pub mod Parts
pub mod Chain
pub mod Newest
pub mod Chance
