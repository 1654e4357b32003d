pub mod Lines
pub mod Mounted
pub mod Silence
