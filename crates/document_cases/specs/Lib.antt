pub mod Documents
pub mod Outlines
pub mod Parts
