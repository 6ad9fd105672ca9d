pub mod Finalizing
pub mod DrawLemmas
pub mod FormOrders
pub mod KeptFinalLemmas
