pub mod ItemLemmas
pub mod Rising
