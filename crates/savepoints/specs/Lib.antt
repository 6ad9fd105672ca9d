pub mod Keys
pub mod Savepoints
