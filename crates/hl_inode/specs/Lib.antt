pub mod Inodes
pub mod Pointers
