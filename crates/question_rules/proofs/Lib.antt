pub mod Placed
pub mod Agreement
pub mod Making
pub mod Unique
pub mod QuestionLemmas
pub mod LeastLemmas
pub mod OrderLemmas
