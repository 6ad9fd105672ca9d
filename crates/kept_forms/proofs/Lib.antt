pub mod KeptFormLemmas
pub mod KeptLemmas
