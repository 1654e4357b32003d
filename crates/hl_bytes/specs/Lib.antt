pub mod Fields
pub mod Runs
pub mod Records
pub mod Sealing
pub mod Pages
pub mod Wholes
pub mod Buffers
