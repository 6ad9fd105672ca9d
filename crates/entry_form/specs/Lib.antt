pub mod Hand
pub mod Entry
