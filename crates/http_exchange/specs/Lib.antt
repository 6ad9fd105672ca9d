pub mod Exchange
pub mod Carrying
