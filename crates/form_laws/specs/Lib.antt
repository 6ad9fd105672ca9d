pub mod WalkLaws
pub mod CycleLaws
pub mod DraftLaws
pub mod Readings
pub mod ReadingLaws
pub mod FormOf
