pub mod Choices
pub mod Spelling
pub mod Reading
