pub mod Finds
pub mod Steps
pub mod Tables
pub mod Xml
