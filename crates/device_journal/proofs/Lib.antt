mod Appended
mod Calls
mod Chains
mod Images
mod Openings
mod ReadTo
pub mod Unique
