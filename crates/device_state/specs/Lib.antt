pub mod State
pub mod Entries
pub mod Numbered
pub mod Flights
pub mod Holding
pub mod Purging
pub mod Changes
