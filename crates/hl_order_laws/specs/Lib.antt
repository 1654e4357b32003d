pub mod LastBlocks
pub mod GoingOn
