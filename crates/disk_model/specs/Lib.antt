pub mod Disk
pub mod Failing
pub mod Images
pub mod Memory
pub mod Laws
