pub mod ListLemmas
pub mod ExprLemmas
pub mod SyntaxLemmas
