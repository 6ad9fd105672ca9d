pub mod Cycles
pub mod Rows
pub mod Walks
pub mod Reached
