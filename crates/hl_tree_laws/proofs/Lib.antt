pub mod After
pub mod Contents
pub mod Lookups
pub mod Moved
pub mod MovedTree
pub mod NamesIn
pub mod OtherContents
pub mod SameCalls
pub mod Tree
mod WorkedExamples
