pub mod TreeLemmas
pub mod PrimaryLemmas
pub mod ControlLemmas
pub mod PathLemmas
pub mod NameLemmas
