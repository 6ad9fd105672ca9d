pub mod Trees
pub mod Primary
pub mod Models
pub mod Controls
pub mod Outlines
pub mod Names
