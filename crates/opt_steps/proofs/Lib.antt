pub mod FactsEdging
pub mod ChainsJoining
pub mod DeadLists
pub mod DeadPlacing
pub mod DeadCrossing
pub mod DeadKeeping
pub mod DeadReleasing
