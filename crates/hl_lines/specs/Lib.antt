pub mod Lines
pub mod LineTable
pub mod Index
pub mod Indexes
