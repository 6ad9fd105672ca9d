pub mod FindLemmas
pub mod StepLemmas
