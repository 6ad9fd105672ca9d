pub mod EntityParts
pub mod Actions
pub mod Finals
pub mod Fits
pub mod KeptFinals
pub mod Laws
