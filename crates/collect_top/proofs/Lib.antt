pub mod Causes
pub mod DefaultServer
pub mod Headlines
pub mod Logs
pub mod Over
pub mod Runs
pub mod Transmitting
