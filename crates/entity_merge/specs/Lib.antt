pub mod Actions
pub mod Branches
pub mod Laws
pub mod Merging
pub mod VersionTable
