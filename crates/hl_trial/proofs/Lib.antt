pub mod CleanLemmas
pub mod LogCleanLemmas
pub mod MadeLemmas
pub mod PartLemmas
pub mod UnitLemmas
