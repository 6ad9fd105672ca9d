pub mod AppendLemmas
pub mod ReadingLemmas
pub mod WrittenLists
