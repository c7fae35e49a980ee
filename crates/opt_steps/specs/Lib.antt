pub mod FactsEdges
pub mod ChainsJoined
pub mod DeadPlaces
pub mod DeadRelease
