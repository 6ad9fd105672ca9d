pub mod Bodies
pub mod Chunks
pub mod Fields
pub mod Found
pub mod Framings
pub mod Heads
pub mod Reads
pub mod Replies
