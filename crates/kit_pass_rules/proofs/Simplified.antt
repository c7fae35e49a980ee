-- The phases of simplifying control flow in turn.
pub mod DefinerLemmas
pub mod NameLemmas
pub mod SimplifyLaw
