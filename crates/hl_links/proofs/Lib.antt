pub mod MachineReads
mod ReadyRooms
pub mod StoppedCalls
pub mod LinkedTrees
pub mod ChangedCalls
pub mod FoundLinks
pub mod LinkCharges
