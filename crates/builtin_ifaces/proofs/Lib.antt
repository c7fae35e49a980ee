pub mod ListedLemmas
pub mod RangeLemmas
pub mod SegmentLemmas
pub mod Within
