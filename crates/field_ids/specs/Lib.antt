pub mod Draws
pub mod Hashes
pub mod Ids
