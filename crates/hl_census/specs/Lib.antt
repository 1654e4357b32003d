pub mod Naming
pub mod Sharing
pub mod Living
pub mod Straying
pub mod Clearing
pub mod Charging
pub mod LastUses
