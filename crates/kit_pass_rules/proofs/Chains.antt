-- Chains of blocks of a good tree, and what their operations become.
pub mod ListLemmas
pub mod InversionLemmas
pub mod PlaceLemmas
pub mod ForwardedLemmas
pub mod ChainLemmas
pub mod UseLemmas
pub mod OriginLemmas
