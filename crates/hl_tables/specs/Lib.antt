pub mod Values
pub mod Laying
pub mod Lending
pub mod Entries
pub mod TableBlocks
