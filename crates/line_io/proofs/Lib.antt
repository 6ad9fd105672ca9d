pub mod Gains
pub mod Lines
