pub mod Starts
pub mod Edges
pub mod Paths
pub mod Fates
