pub mod AbsentLemmas
pub mod LocationLemmas
pub mod ReadingLemmas
pub mod TextLemmas
pub mod TokenLemmas
