-- Constants put in for known values.
pub mod InsertionLemmas
pub mod ScopeLemmas
pub mod PropagationBehaviour
pub mod FactsAfterwards
pub mod NamedConstants
pub mod AllKnownInserted
pub mod PropagationRules
pub mod KnownOperandLemmas
pub mod FactsByPlace
pub mod FactsExist
pub mod BestFactsExist
pub mod SecondPropagation
pub mod NamedInsertion
pub mod NamedPropagation
