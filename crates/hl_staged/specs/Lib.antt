pub mod Repeats
pub mod Slots
pub mod Lines
pub mod Ends
pub mod Rules
