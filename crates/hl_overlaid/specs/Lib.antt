pub mod NodesNow
pub mod Over
pub mod Reading
pub mod Changes
pub mod Units
