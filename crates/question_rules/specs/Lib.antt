pub mod Fields
pub mod Shown
pub mod Settled
pub mod Along
pub mod Answers
pub mod Answered
pub mod Faults
pub mod Orders
