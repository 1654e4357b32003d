pub mod ReadRuns
pub mod SegmentReads
pub mod RackLaws
pub mod SiteReads
pub mod SummaryChains
pub mod ChainWalks
pub mod CoveredReach
pub mod TableReads
