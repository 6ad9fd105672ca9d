pub mod Posts
pub mod Acceptance
pub mod Parameters
pub mod Parts
pub mod Submissions
pub mod Returns
