pub mod Answering
pub mod Ends
pub mod Exchanged
pub mod Rounds
pub mod Script
pub mod Transcript
