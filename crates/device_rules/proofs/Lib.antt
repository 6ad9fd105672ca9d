pub mod Payloads
pub mod Replays
