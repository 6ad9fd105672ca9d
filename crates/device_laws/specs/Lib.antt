pub mod Soundness
pub mod Finals
pub mod DrawnIds
pub mod Sends
