pub mod Words
pub mod Expressions
pub mod Forms
pub mod Documents
pub mod Values
