pub mod OnePass
pub mod Retained
pub mod PassesInOrder
pub mod NestedPasses
pub mod GuardedPasses
