pub mod ChunkCases
pub mod ChunkLoops
pub mod FieldLoops
pub mod HeadLoops
pub mod Lengths
pub mod LineCounts
pub mod Outcomes
pub mod TrailerCases
