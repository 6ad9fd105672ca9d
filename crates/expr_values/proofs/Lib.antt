pub mod Truths
pub mod Positions
pub mod DigitLemmas
pub mod PieceLemmas
pub mod ValueLemmas
pub mod LookUpLemmas
pub mod DependsLemmas
