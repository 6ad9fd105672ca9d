pub mod Texts
pub mod Formats
pub mod Then
pub mod Shapes
pub mod Fields
pub mod Entries
pub mod Found
