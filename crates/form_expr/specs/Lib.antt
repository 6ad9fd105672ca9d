pub mod Words
pub mod Precedence
pub mod Grammar
pub mod Machine
pub mod Reading
pub mod Laws
pub mod Nesting
