pub mod Images
pub mod RackLaws
pub mod Runs
pub mod Sayings
pub mod SyncedWrites
pub mod VolumeLaws
