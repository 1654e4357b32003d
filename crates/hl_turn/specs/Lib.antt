pub mod Entries
pub mod Jobs
pub mod Asking
pub mod Views
pub mod Rule
pub mod Kinds
pub mod Lock
pub mod Calls
