pub mod Reading
pub mod FlatView
pub mod Typed
pub mod FlatFacts
pub mod FlatConstants
pub mod FlatBranches
pub mod Laws
