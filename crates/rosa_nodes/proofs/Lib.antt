pub mod NodeLemmas
pub mod TrimLemmas
pub mod Scalars
pub mod Written
