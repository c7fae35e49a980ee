pub mod SourceLemmas
pub mod CopyLemmas
