mod Appending
pub mod Crashes
pub mod Once
mod Opening
pub mod Payloads
pub mod Replays
mod Unopened
mod Calling
