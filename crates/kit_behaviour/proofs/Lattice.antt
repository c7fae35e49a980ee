-- Facts: their order, their soundness, and what they allow.
pub mod FactLemmas
pub mod Soundness
pub mod ReplacementBehaviour
pub mod DecisionBehaviour
pub mod DeterminedScopes
pub mod RenamedFacts
