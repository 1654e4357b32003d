pub mod Laid
pub mod EntryLemmas
pub mod EntryBlocks
pub mod BlockPlaces
pub mod ReadBlocks
pub mod TablesRead
pub mod TableSpelling
