pub mod SummaryLemmas
pub mod SealLemmas
pub mod ReadingLemmas
