pub mod Causes
pub mod Clock
pub mod Exchanges
pub mod Moves
