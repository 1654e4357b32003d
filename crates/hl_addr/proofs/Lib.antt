pub mod SlotLemmas
pub mod SegmentLemmas
pub mod PlaceLemmas
