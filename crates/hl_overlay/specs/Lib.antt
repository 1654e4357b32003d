pub mod Pointing
pub mod Drafting
pub mod Clearing
pub mod DraftTables
pub mod Overlays
pub mod Making
pub mod MadeUnits
