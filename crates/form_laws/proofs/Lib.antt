pub mod RefusalLemmas
pub mod FormLaws
