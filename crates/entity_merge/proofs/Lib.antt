pub mod ActionLemmas
pub mod MergeLemmas
pub mod StayLemmas
pub mod StepLemmas
pub mod VersionLemmas
