pub mod PartLaws
pub mod WordLaws
pub mod LineLaws
pub mod PathLoop
pub mod Places
pub mod Fronts
pub mod Cuts
pub mod OneLine
