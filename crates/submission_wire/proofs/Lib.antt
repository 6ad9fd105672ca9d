pub mod Pieces
pub mod Closing
pub mod Submitting
pub mod ValueBytes
pub mod PostHead
pub mod Returned
