pub mod Exchanges
pub mod Sends
pub mod Rounds
pub mod Agreement
