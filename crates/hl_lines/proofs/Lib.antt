pub mod IndexLemmas
pub mod Uses
pub mod Changes
pub mod Tables
pub mod Lookups
