pub mod Numbers
pub mod Values
pub mod Operators
pub mod Functions
pub mod Rows
pub mod Seen
pub mod Evaluation
