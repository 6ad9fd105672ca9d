pub mod ReadsLemmas
pub mod PathLemmas
pub mod FieldLemmas
