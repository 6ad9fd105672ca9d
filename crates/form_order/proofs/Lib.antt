pub mod ListLemmas
pub mod LeadsLemmas
pub mod OrderLemmas
pub mod WalkLemmas
pub mod ReachLemmas
pub mod RowLemmas
