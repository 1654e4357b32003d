pub mod PartLemmas
pub mod ChainLemmas
pub mod Walking
