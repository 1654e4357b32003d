pub mod Words
pub mod Kinds
pub mod Spelling
pub mod Reading
pub mod Answer
pub mod Input
