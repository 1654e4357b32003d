pub mod Slips
pub mod Pages
pub mod Free
