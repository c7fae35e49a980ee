-- Naming values by their places, and the rules.
pub mod PlaceEquality
pub mod NumberingBehaviour
pub mod DefinedNames
pub mod NumberingRules
pub mod NumberingForgetsNames
pub mod NumberingStays
pub mod RuleLemmas
pub mod DefinedUnderNames
