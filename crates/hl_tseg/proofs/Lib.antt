pub mod OpenSlots
pub mod SlotRuns
