pub mod NameLemmas
pub mod WholeLemmas
