-- Each rule where chains are joined, and where values have other types.
pub mod PartLemmas
pub mod RuleLemmas
pub mod TypeLemmas
