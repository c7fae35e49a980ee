pub mod ItemLemmas
pub mod LineLemmas
pub mod TextLemmas
