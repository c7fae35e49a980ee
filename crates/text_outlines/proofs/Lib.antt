pub mod OutlineLemmas
pub mod AbsentLemmas
