pub mod Racks
pub mod Covering
pub mod Recoveries
pub mod Stops
pub mod Finding
pub mod Chains
pub mod TablePlaces
