pub mod Places
pub mod Devices
