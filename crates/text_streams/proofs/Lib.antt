pub mod PositionLemmas
pub mod QuoteLemmas
pub mod ReadingLemmas
