pub mod NeverUsed
pub mod KnownTrees
pub mod KeptTrees
mod WalkSteps
