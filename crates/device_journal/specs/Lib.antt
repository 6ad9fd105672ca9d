pub mod Frames
pub mod Moments
pub mod Sound
pub mod Journal
pub mod Opened
