pub mod TreeCalls
