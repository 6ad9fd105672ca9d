pub mod Slashes
pub mod Spelled
