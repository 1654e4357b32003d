pub mod SlotTable
pub mod Slots
pub mod Segments
