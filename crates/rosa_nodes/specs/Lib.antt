pub mod Nodes
pub mod Trimming
pub mod Writing
