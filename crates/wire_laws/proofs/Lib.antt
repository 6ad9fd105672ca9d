pub mod Statuses
pub mod BaseLaws
pub mod OneReply
