pub mod Failing
pub mod Tears
pub mod Transfers
pub mod Recorded
pub mod Kept
pub mod Told
