pub mod Documents
pub mod Refusals
pub mod Machine
pub mod Frames
pub mod Reading
pub mod Escapes
pub mod LocalNames
