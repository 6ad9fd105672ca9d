pub mod Reads
pub mod Paths
pub mod Fields
pub mod Order
pub mod Forms
pub mod FormDefs
