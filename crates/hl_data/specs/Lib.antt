pub mod ByNumber
pub mod Files
