pub mod Pieces
pub mod Lines
pub mod ReplyHeads
pub mod Accepted
pub mod Decisions
pub mod UriForms
pub mod Bases
