pub mod Looking
pub mod Classes
pub mod Unchanged
pub mod Stopping
pub mod RulesKept
pub mod Pushing
pub mod PointerBlocks
pub mod FoundInodes
