pub mod Tokens
pub mod Classes
pub mod Spelling
